-- `steps::push_step` meets its contract: it is the stack's `push`, whose board is as narrow as the given one.
use Rattle.meaning.proofs.Kit.{arith, to_z-of_z, rules}
use Rattle.panel.proofs.Narrow.{narrow_pushed}
use Rattle.panel.proofs.steps.push_step.Statement.{statement}
use Rattle.panel.proofs.steps.push_step.Tie as tie

step_out_requires : tie.Need-step_out-requires
step_out_requires c κs =
    rw (c.push-step.ensures, c.board_in.ensures)
    (narrow_pushed _ _ (record { symbols = omega arith; rows = omega arith; rules = omega arith }) _ _ _)

returns : tie.Need-returns
returns c =
    rw (← c.board_in.ensures, ← to_z-of_z c.ranges.l, ← c.push-step.ensures) c.step_out.ensures

pub push_step_spec : {M : Type 1} → statement M
push_step_spec = tie.close (tie.spec (λ c κs. search rules) (λ c κs. search rules) step_out_requires returns)
