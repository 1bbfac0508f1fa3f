-- The words before `k` are marks.
use Rattle.std.proofs.Common.{◌≡◌, ◌+◌, ◌-◌}
use Rattle.orders.specs.Marks.{are_rows}
use Rattle.orders.proofs.marks.are_rows.Given as goal

abbrev pub invariant-loop-k : goal.invariant-loop-k
invariant-loop-k l = are_rows l.line l.from l.rows l.count ≡ are_rows l.line (l.from + l.k) (l.rows - l.k) l.count
