-- `sum` is safe: the sum is at most 65535 for each number passed.
use Rattle.meaning.proofs.Kit.{◌≤◌, ◌*◌}
use Rattle.report.proofs.counting.sum.Given as goal

abbrev pub invariant-loop-x : goal.invariant-loop-x
invariant-loop-x l = l.total ≤ 65535 * l.x-index
