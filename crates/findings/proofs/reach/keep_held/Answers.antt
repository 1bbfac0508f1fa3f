use Rattle.meaning.proofs.Kit.{ap, refl, ◌&&◌, arith}
use Rattle.meaning.specs.Literals.{has}
use Rattle.findings.specs.Reach.{held_only}
use Rattle.findings.proofs.Filling.{filled_none, filled_put, filled_ahead, filled_all}
use Rattle.findings.proofs.reach.keep_held.Goals as goal

pub loop-p-init : goal.loop-p-init
loop-p-init c = filled_none

pub loop-p-preserved : goal.loop-p-preserved
loop-p-preserved c =
    let i = c.loop-p.invariant in
    filled_put i _ (omega arith) (ap (λ t. t && has c.args.held.now c.loop-p.p) (filled_ahead i))

pub returns : goal.returns
unfolding held_only
returns c = filled_all c.loop-p.invariant _ refl (omega arith)
