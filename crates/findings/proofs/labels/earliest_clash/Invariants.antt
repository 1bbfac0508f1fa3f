use Rattle.findings.proofs.Clashes.{Found}
use Rattle.findings.proofs.labels.earliest_clash.Given as goal

-- what is found among the first s symbols, and its larger rank
abbrev pub invariant-loop-s : goal.invariant-loop-s
invariant-loop-s l = Found l.ranks l.s l.found l.least
