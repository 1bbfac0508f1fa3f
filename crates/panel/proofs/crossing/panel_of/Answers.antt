-- `crossing::panel_of` meets its contract: a byte more of both sets.
use Rattle.meaning.proofs.Kit.{◌≡◌, ◌∙◌, sym, refl, true, false, Bool, ℕ, arith, get_or, length-replicate}
use mir.Val.{bool_byte}
use Rattle.board.specs.Grounds.{byte_of}
use Rattle.panel.proofs.Flags.{made_none, made_more, made_all}
use Rattle.panel.proofs.crossing.panel_of.Goals as goal

byte_is : (flag : Bool) → bool_byte flag ≡ byte_of flag
byte_is true = refl
byte_is false = refl

pub loop-k-init : goal.loop-k-init
loop-k-init c = (
  refl,
  refl,
  refl,
  made_none byte_of _ (length-replicate {A = ℕ} 400 0 ∙ sym c.requires.0),
  made_none byte_of _ (length-replicate {A = ℕ} 400 0 ∙ sym c.requires.1),
)

pub loop-k-preserved : goal.loop-k-preserved
loop-k-preserved c =
    let a = c.args in
    let i = c.loop-k.invariant in (
      i.0,
      i.1,
      i.2,
      made_more byte_of _ false _ _ i.3 (omega (arith, c.requires.0)) (byte_is (get_or a.first.now c.loop-k.k false)),
      made_more byte_of _ false _ _ i.4 (omega (arith, c.requires.1)) (byte_is (get_or a.second.now c.loop-k.k false)),
    )

pub returns : goal.returns
returns c =
    let i = c.loop-k.invariant in
    rw (
      i.0,
      i.1,
      i.2,
      made_all byte_of _ _ c.loop-k.k i.3 (omega (arith, c.requires.0)),
      made_all byte_of _ _ c.loop-k.k i.4 (omega (arith, c.requires.1)),
    )
