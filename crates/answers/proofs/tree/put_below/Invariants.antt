-- No more wait than there is room for.
use Rattle.std.proofs.Common.{◌≡◌, ◌≤◌, length}
use Rattle.answers.proofs.tree.put_below.Given as goal

abbrev pub invariant-loop-other : goal.invariant-loop-other
invariant-loop-other l = (l.next ≤ 2816) × (length l.waiting ≡ 2816)
