-- `value` is of the marks from `k` on, and below 2 to the power of how many they are.
use Rattle.std.proofs.Common.{◌≡◌, ◌<◌, ◌-◌, ◌^◌, length, drop}
use Rattle.orders.specs.Marks.{marked_by}
use Rattle.orders.proofs.marks.marked_by.Given as goal

abbrev pub invariant-loop-k : goal.invariant-loop-k
invariant-loop-k l = (l.value ≡ marked_by (drop l.k l.word)) × (l.value < 2 ^ (length l.word - l.k))
