-- What waits has its room; and so many lines are left.
use Rattle.std.proofs.Common.{◌≡◌, ◌≤◌, length}
use Rattle.answers.proofs.tree.say_tree.Given as goal

abbrev pub invariant-loop-count : goal.invariant-loop-count
invariant-loop-count g l = (l.count ≤ 2816) × (length l.shown ≡ 400) × (length l.waiting ≡ 2816)

abbrev pub decreases-loop-count : goal.decreases-loop-count
decreases-loop-count g l = l.left
