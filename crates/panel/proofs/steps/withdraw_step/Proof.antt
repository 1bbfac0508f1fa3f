-- `steps::withdraw_step` meets its contract: it is the stack's `withdraw`, whose board is as narrow as the given one.
use Rattle.meaning.proofs.Kit.{arith, to_z-of_z, rules}
use Rattle.panel.proofs.Narrow.{narrow_withdrawn}
use Rattle.panel.proofs.steps.withdraw_step.Statement.{statement}
use Rattle.panel.proofs.steps.withdraw_step.Tie as tie

step_out_requires : tie.Need-step_out-requires
step_out_requires c κs =
    rw (c.withdraw-step.ensures, c.board_in.ensures)
    (narrow_withdrawn _ _ (record { symbols = omega arith; rows = omega arith; rules = omega arith }) _ _ _)

returns : tie.Need-returns
returns c =
    rw (← c.board_in.ensures, ← to_z-of_z c.ranges.l, ← c.withdraw-step.ensures) c.step_out.ensures

pub withdraw_step_spec : {M : Type 1} → statement M
withdraw_step_spec = tie.close (tie.spec (λ c κs. search rules) (λ c κs. search rules) step_out_requires returns)
