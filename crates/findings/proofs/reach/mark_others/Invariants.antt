use Rattle.literals.specs.Row.{numbers_at, decode}
use Rattle.literals.proofs.Scanning.{left}
use Rattle.findings.proofs.Joining.{Crossed}
use Rattle.findings.proofs.reach.mark_others.Given as goal

-- with the opposites of what is left of the row the marks are as they are to be, and those marked are in the queue
abbrev pub invariant-loop-l : goal.invariant-loop-l
invariant-loop-l l =
    Crossed l.p (decode (numbers_at l.table l.row)) (left l.table l.row l.l-index) l.initial.marks l.initial.queue l.end l.marks l.queue l.next
