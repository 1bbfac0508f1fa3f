-- What the stacks come to is told by the board's open.
use Rattle.stack.specs.Steps.{opened_with}
use Rattle.stack.proofs.steps.open.Goals as goal

pub returns-in-Ok : goal.returns-in-Ok
unfolding opened_with
returns-in-Ok c = rw (← c.open-change.ensures, c.in-Ok.is, c.empty_stacks-next.ensures)

pub returns-in-Err : goal.returns-in-Err
unfolding opened_with
returns-in-Err c = rw (← c.open-change.ensures, c.in-Err.is)
