-- `crossing::board_of` meets its contract: a flag more of both sets.
use Rattle.meaning.proofs.Kit.{◌∙◌, sym, refl, false, arith, length-replicate}
use Rattle.panel.specs.Crossing.{flag_of}
use Rattle.panel.proofs.Flags.{made_none, made_more, made_all}
use Rattle.panel.proofs.crossing.board_of.Goals as goal

pub loop-k-init : goal.loop-k-init
loop-k-init c = (
  refl,
  refl,
  refl,
  made_none flag_of _ (length-replicate 400 false ∙ sym c.requires.0),
  made_none flag_of _ (length-replicate 400 false ∙ sym c.requires.1),
)

pub loop-k-preserved : goal.loop-k-preserved
loop-k-preserved c =
    let i = c.loop-k.invariant in (
      i.0,
      i.1,
      i.2,
      made_more flag_of _ 0 _ _ i.3 (omega (arith, c.requires.0)) refl,
      made_more flag_of _ 0 _ _ i.4 (omega (arith, c.requires.1)) refl,
    )

pub returns : goal.returns
returns c =
    let i = c.loop-k.invariant in
    rw (
      i.0,
      i.1,
      i.2,
      made_all flag_of _ _ c.loop-k.k i.3 (omega (arith, c.requires.0)),
      made_all flag_of _ _ c.loop-k.k i.4 (omega (arith, c.requires.1)),
    )
