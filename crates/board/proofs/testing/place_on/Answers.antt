-- Its tests are those of `placed`, in its order.
use Rattle.meaning.proofs.Kit.{◌∙◌, sym, ap, arith}
use Rattle.literals.proofs.Signed.{back_abs}
use Rattle.board.specs.Placing.{placed}
use Rattle.std.specs.Prelude.{Ok}
use Rattle.board.proofs.Goodness.{good_is}
use Rattle.literals.proofs.Arguments.{place_is, range_facts, range_is}
use Rattle.board.proofs.testing.place_on.Goals as goal

pub returns-then-not-good : goal.returns-then-not-good
unfolding placed
returns-then-not-good c = rw (sym c.good.ensures ∙ c.if-not-good.true)

pub returns-then-not-is_furnace : goal.returns-then-not-is_furnace
unfolding placed
returns-then-not-is_furnace c = rw (sym c.good.ensures ∙ c.if-not-good.false, sym c.is_furnace.ensures ∙ c.if-not-is_furnace.true)

pub returns-then-not-in_range : goal.returns-then-not-in_range
unfolding placed
returns-then-not-in_range c =
    rw (
      sym c.good.ensures ∙ c.if-not-good.false,
      sym c.is_furnace.ensures ∙ c.if-not-is_furnace.false,
      range_is c.ranges.l _ _ c.in_range.ensures ∙ c.if-not-in_range.true,
    )

pub place-requires : goal.place-requires
place-requires c =
    let r = range_facts c.args.board.symbols c.args.l (range_is c.ranges.l _ _ c.in_range.ensures ∙ c.if-not-in_range.false) in
    omega (arith, r.0, r.1, back_abs c.ranges.l, (good_is _ _ (sym c.good.ensures ∙ c.if-not-good.false)).sound.symbols)

pub returns : goal.returns
unfolding placed
returns c =
    rw (
      sym c.good.ensures ∙ c.if-not-good.false,
      sym c.is_furnace.ensures ∙ c.if-not-is_furnace.false,
      range_is c.ranges.l _ _ c.in_range.ensures ∙ c.if-not-in_range.false,
    ) (ap Ok (place_is c.ranges.l _ c.place.ensures))
