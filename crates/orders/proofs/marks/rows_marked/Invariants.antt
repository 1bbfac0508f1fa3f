-- `value` is of the words from `k` on, and below 128 to the power of how many they are.
use Rattle.std.proofs.Common.{◌≡◌, ◌+◌, ◌<◌, ◌-◌, ◌^◌}
use Rattle.orders.specs.Marks.{rows_marked}
use Rattle.orders.proofs.marks.rows_marked.Given as goal

abbrev pub invariant-loop-k : goal.invariant-loop-k
invariant-loop-k l = (l.value ≡ rows_marked l.line (l.from + l.k) (l.rows - l.k)) × (l.value < 128 ^ (l.rows - l.k))
