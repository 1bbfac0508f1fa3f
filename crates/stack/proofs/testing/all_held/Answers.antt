-- A literal that stands among the flags is of one of their symbols.
use Rattle.std.proofs.Common.{◌∙◌, sym, pos, get_or, ℤ}
use Rattle.literals.proofs.Signed.{back}
use Rattle.literals.proofs.Arguments.{range_facts}
use Rattle.stack.proofs.Flags.{flag_within}
use Rattle.stack.proofs.testing.all_held.Goals as goal

pub place-requires : goal.place-requires
place-requires c =
    let l : ℤ = back (get_or c.args.on.now c.loop-l.l-index (pos 0)) in
    range_facts 200 l (flag_within c.args.symbols 200 c.loop-l.left l c.loop-l.invariant.0
    (sym c.is_flagged.ensures ∙ c.if-not-is_flagged.false))
