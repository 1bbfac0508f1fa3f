use Rattle.meaning.proofs.Kit.{◌-◌, length}
use Rattle.literals.specs.Row.{rows_in}
use Rattle.findings.proofs.Reaching.{Trail}
use Rattle.findings.proofs.reach.follow.Given as goal

-- every marked literal stands in the queue, and what those taken from it lead to is marked
abbrev pub invariant-loop-at : goal.invariant-loop-at
invariant-loop-at l = Trail (rows_in l.rows l.table) l.ranks l.initial.marks l.initial.queue l.marks l.queue l.next l.at

-- the places less those taken: the queue has no more literals than there are places
abbrev pub decreases-loop-at : goal.decreases-loop-at
decreases-loop-at l = length l.fn.marks - l.at
