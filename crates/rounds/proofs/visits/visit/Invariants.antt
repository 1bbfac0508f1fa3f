use Rattle.meaning.proofs.Kit.{◌-◌, ◌*◌}
use Rattle.literals.specs.Row.{most_literals}
use Rattle.findings.specs.Queue.{Queued}
use Rattle.rounds.specs.Queue.{ranked}
use Rattle.rounds.proofs.Striking.{Visited}
use Rattle.rounds.proofs.visits.visit.Given as goal

-- the rows before the cell that contain p are struck, and those that then count one literal or none were looked at
abbrev pub invariant-loop-cell : goal.invariant-loop-cell
invariant-loop-cell l = record {
  visited : Visited l.k l.rows l.table l.p l.initial.counts l.initial.ranks l.cell l.counts l.ranks;
  queued : Queued ranked 0 l.initial.ranks l.ranks l.initial.queue l.end l.queue l.next;
}

-- the cells left: their numbers rise along the list
abbrev pub decreases-loop-cell : goal.decreases-loop-cell
decreases-loop-cell l = most_literals * l.rows - l.cell
