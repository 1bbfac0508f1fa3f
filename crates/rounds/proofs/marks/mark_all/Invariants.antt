use Rattle.literals.specs.Row.{numbers_at, decode}
use Rattle.literals.proofs.Scanning.{left}
use Rattle.findings.specs.Queue.{Queued}
use Rattle.rounds.specs.Queue.{ranked}
use Rattle.rounds.proofs.Marking.{Passed}
use Rattle.rounds.proofs.marks.mark_all.Given as goal

-- the row's literals that were passed are marked, and in the queue
abbrev pub invariant-loop-l : goal.invariant-loop-l
invariant-loop-l l = record {
  passed : Passed l.k (decode (numbers_at l.table l.row)) (left l.table l.row l.l-index) l.initial.ranks l.ranks;
  queued : Queued ranked 0 l.initial.ranks l.ranks l.initial.queue l.end l.queue l.next;
}
