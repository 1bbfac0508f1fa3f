use Rattle.meaning.proofs.Kit.{w16, of_z}
use Rattle.literals.specs.Row.{numbers_at, decode}
use Rattle.literals.proofs.Scanning.{left}
use Rattle.findings.specs.Ranks.{below}
use Rattle.rounds.proofs.OpenLiterals.{Found}
use Rattle.rounds.proofs.marks.open_in.Given as goal

-- the open literals of the row are the one that was found and those of what is left of the row
abbrev pub invariant-loop-l : goal.invariant-loop-l
invariant-loop-l l = Found (below l.k l.ranks) (decode (numbers_at l.table l.row)) (left l.table l.row l.l-index) (of_z w16 l.one)
