-- `steps::pop_step` meets its contract: it is the stack's `pop`, whose board is as narrow as the given one.
use Rattle.meaning.proofs.Kit.{arith, rules}
use Rattle.panel.proofs.Narrow.{narrow_popped}
use Rattle.panel.proofs.steps.pop_step.Statement.{statement}
use Rattle.panel.proofs.steps.pop_step.Tie as tie

step_out_requires : tie.Need-step_out-requires
step_out_requires c κs =
    rw (c.pop-step.ensures, c.board_in.ensures)
    (narrow_popped _ _ (record { symbols = omega arith; rows = omega arith; rules = omega arith }) _ _)

returns : tie.Need-returns
returns c = rw (← c.board_in.ensures, ← c.pop-step.ensures) c.step_out.ensures

pub pop_step_spec : {M : Type 1} → statement M
pop_step_spec = tie.close (tie.spec (λ c κs. search rules) (λ c κs. search rules) step_out_requires returns)
