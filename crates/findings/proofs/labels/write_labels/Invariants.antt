use Rattle.findings.proofs.Filling.{Filled, symbol_label}
use Rattle.findings.proofs.labels.write_labels.Given as goal

-- the symbols passed have their label
abbrev pub invariant-loop-s : goal.invariant-loop-s
invariant-loop-s l = Filled 0 (symbol_label l.ranks) l.initial.labels l.s l.labels
