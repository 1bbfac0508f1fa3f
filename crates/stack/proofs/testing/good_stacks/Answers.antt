-- It tests the one stack and then the other.
use Rattle.meaning.proofs.Kit.{◌∙◌, sym}
use Rattle.stack.specs.Stacking.{good_stacks}
use Rattle.stack.proofs.testing.good_stacks.Goals as goal

pub returns-then-not-good_stack : goal.returns-then-not-good_stack
unfolding good_stacks
returns-then-not-good_stack c = rw (sym c.good_stack.ensures ∙ c.if-not-good_stack.true)

pub returns : goal.returns
unfolding good_stacks
returns c = rw (sym c.good_stack.ensures ∙ c.if-not-good_stack.false) c.good_stack-2.ensures
