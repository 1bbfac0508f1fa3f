-- No more are said than were looked at.
use Rattle.std.proofs.Common.{◌≤◌}
use Rattle.answers.proofs.asking.say_marked.Given as goal

abbrev pub invariant-loop-p : goal.invariant-loop-p
invariant-loop-p g l = l.count ≤ l.p
