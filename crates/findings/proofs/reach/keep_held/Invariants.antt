use Rattle.meaning.proofs.Kit.{false, ◌&&◌}
use Rattle.meaning.specs.Literals.{has}
use Rattle.findings.proofs.Filling.{Filled}
use Rattle.findings.proofs.reach.keep_held.Given as goal

-- of the places passed only the held premises are kept
abbrev pub invariant-loop-p : goal.invariant-loop-p
invariant-loop-p l = Filled false (λ i. has l.initial.marks i && has l.held i) l.initial.marks l.p l.marks
