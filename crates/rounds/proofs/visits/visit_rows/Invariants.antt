use Rattle.meaning.proofs.Kit.{◌≡◌, ◌⊎◌, ◌≤◌, ℕ, get_or}
use Rattle.findings.specs.Queue.{Queued}
use Rattle.rounds.specs.Queue.{ranked}
use Rattle.rounds.specs.Visits.{Looked, Touched, Counts}
use Rattle.rounds.proofs.visits.visit_rows.Given as goal

-- the rows that contain the opposite of a place passed, and that count one open literal or none, were looked at; the counts are those of the queue
-- up to here
abbrev pub invariant-loop-at : goal.invariant-loop-at
invariant-loop-at l = record {
  looked : Looked l.k l.rows l.table (λ r. Touched l.table l.initial.queue l.from l.at r × (get_or l.counts r 0 ≤ 1)) l.initial.ranks l.ranks;
  queued : Queued ranked 0 l.initial.ranks l.ranks l.initial.queue l.end l.queue l.next;
  counted : Counts l.rows l.table l.initial.queue l.at l.counts;
  kept : (r : ℕ) → (get_or l.counts r 0 ≡ get_or l.initial.counts r 0) ⊎ Touched l.table l.initial.queue l.from l.at r;
}
