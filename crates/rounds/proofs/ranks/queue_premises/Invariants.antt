use Rattle.meaning.proofs.Kit.{◌-◌, ◌≤◌}
use Rattle.rounds.specs.Queue.{Premises}
use Rattle.rounds.proofs.ranks.queue_premises.Given as goal

-- the premises below p are in the queue
abbrev pub invariant-loop-p : goal.invariant-loop-p
invariant-loop-p l = record { inside : l.p ≤ l.places; premises : Premises l.p l.held l.queue l.end }

-- the places left
abbrev pub decreases-loop-p : goal.decreases-loop-p
decreases-loop-p l = l.places - l.p
