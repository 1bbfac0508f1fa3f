-- The invariant of `mark_single`: the powers of two below `number` are marked.
use Rattle.meaning.proofs.Kit.{◌-◌, ◌^◌}
use Rattle.positions.proofs.OneTruth.{Marked}
use Rattle.positions.proofs.variables.mark_single.Given as goal

abbrev pub invariant-loop-number : goal.invariant-loop-number
invariant-loop-number l = Marked l.n l.truth l.number

abbrev pub decreases-loop-number : goal.decreases-loop-number
decreases-loop-number l = 2 ^ l.n - l.number
