-- A literal beyond the places of the flags stands among none of them.
use Rattle.meaning.proofs.Kit.{◌∙◌, sym, arith}
use Rattle.meaning.proofs.Tests.{false_of, clash}
use Rattle.literals.proofs.Signed.{back}
use Rattle.literals.proofs.Arguments.{range_is, place_fits}
use Rattle.stack.proofs.Flags.{flag_within}
use Rattle.stack.proofs.testing.is_flagged.Goals as goal

pub returns-then-not-in_range-2 : goal.returns-then-not-in_range-2
returns-then-not-in_range-2 c =
    let out = range_is c.ranges.l 200 _ c.in_range-2.ensures ∙ c.if-not-in_range-2.true in
    sym (false_of _ (λ e. clash (flag_within c.args.symbols 200 c.args.flags.now c.args.l c.requires e) out))

pub bounds-flags-place : goal.bounds-flags-place
bounds-flags-place c =
    let within = sym c.in_range-2.ensures ∙ c.if-not-in_range-2.false in
    omega (arith, c.place.ensures, place_fits 200 (back c.args.l) within, c.requires)
