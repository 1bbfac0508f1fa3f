use Rattle.meaning.proofs.Kit.{cond}
use Rattle.meaning.specs.Tests.{none}
use Rattle.meaning.specs.Literals.{has}
use Rattle.findings.proofs.Filling.{Filled}
use Rattle.rounds.proofs.ranks.start_ranks.Given as goal

-- the places passed have their first rank
abbrev pub invariant-loop-p : goal.invariant-loop-p
invariant-loop-p l = Filled 0 (λ i. cond (has l.held i) 0 none) l.initial.ranks l.p l.ranks
