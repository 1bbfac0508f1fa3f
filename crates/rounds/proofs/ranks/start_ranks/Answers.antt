use Rattle.meaning.proofs.Kit.{◌∙◌, sym, ap, refl, cond, arith}
use Rattle.meaning.specs.Tests.{none}
use Rattle.findings.proofs.Filling.{filled_none, filled_put, filled_all}
use Rattle.rounds.specs.Ranks.{start_ranks}
use Rattle.rounds.proofs.ranks.start_ranks.Goals as goal
use Rattle.rounds.proofs.ranks.start_ranks.Goals.{then-held-p, else-held-p}

pub loop-p-init : goal.loop-p-init
loop-p-init c = filled_none

pub loop-p-preserved : goal.loop-p-preserved
loop-p-preserved c =
    filled_put c.loop-p.invariant c.if-held-p.rank (omega arith)
    (elim c.if-held-p.branch [
      | then-held-p w ↦ w.rank-is ∙ sym (ap (λ b. cond b 0 none) w.if-held-p.true)
      | else-held-p w ↦ w.rank-is ∙ sym (ap (λ b. cond b 0 none) w.if-held-p.false)
    ])

pub returns : goal.returns
unfolding start_ranks
returns c = filled_all c.loop-p.invariant _ refl (omega arith)
