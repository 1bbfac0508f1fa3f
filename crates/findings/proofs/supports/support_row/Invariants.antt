use Rattle.meaning.proofs.Kit.{◌-◌}
use Rattle.meaning.specs.Tests.{none}
use Rattle.literals.specs.Row.{numbers_at, decode}
use Rattle.literals.proofs.Scanning.{left}
use Rattle.findings.specs.Ranks.{below}
use Rattle.findings.proofs.Givers.{Seen, Missed}
use Rattle.findings.proofs.supports.support_row.Given as goal

-- of the rows before the cell, those that contain p do not give it. The cells' numbers rise along the list.
abbrev pub invariant-rows : goal.invariant-rows
invariant-rows l = Missed (below l.k l.ranks) l.fn.rows l.table l.p l.cell

abbrev pub decreases-rows : goal.decreases-rows
decreases-rows l = none - l.cell

-- the row in hand gives p exactly if what is left of it says so
abbrev pub invariant-loop-l : goal.invariant-loop-l
invariant-loop-l l = Seen (below l.k l.ranks) l.p (decode (numbers_at l.table l.row)) (left l.table l.row l.l-index)
