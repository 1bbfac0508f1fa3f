-- `steps::open_step` meets its contract: it is the stack's `open`, whose board is narrow since the count is.
use Rattle.meaning.proofs.Kit.{arith, rules}
use Rattle.panel.proofs.Narrow.{narrow_opened}
use Rattle.panel.proofs.steps.open_step.Statement.{statement}
use Rattle.panel.proofs.steps.open_step.Tie as tie

opened_out_requires : tie.Need-opened_out-requires
opened_out_requires c κs = rw c.before.before.open-step.ensures (narrow_opened _ _ (omega arith))

pub open_step_spec : {M : Type 1} → statement M
open_step_spec = tie.close (tie.spec
    (λ c κs. search rules) opened_out_requires (λ c. rw (← c.before.before.before.open-step.ensures, c.opened_out.ensures)))
