use Rattle.meaning.proofs.Kit.{◌≤◌, ◌<◌, get_or}
use Rattle.findings.specs.Queue.{Queued}
use Rattle.rounds.specs.Queue.{ranked}
use Rattle.rounds.specs.Visits.{Looked}
use Rattle.rounds.proofs.visits.visit_units.Given as goal

-- the rows passed that count one literal or none were looked at
abbrev pub invariant-loop-row : goal.invariant-loop-row
invariant-loop-row l = record {
  looked : Looked 1 l.rows l.table (λ r. (r < l.row) × (get_or l.counts r 0 ≤ 1)) l.initial.ranks l.ranks;
  queued : Queued ranked 0 l.initial.ranks l.ranks l.initial.queue l.end l.queue l.next;
}
