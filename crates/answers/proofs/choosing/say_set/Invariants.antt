-- No more are said than were looked at.
use Rattle.std.proofs.Common.{◌≤◌}
use Rattle.answers.proofs.choosing.say_set.Given as goal

abbrev pub invariant-loop-i : goal.invariant-loop-i
invariant-loop-i g l = l.count ≤ l.i
