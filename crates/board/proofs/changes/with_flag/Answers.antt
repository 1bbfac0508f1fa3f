-- The flag is set among the furnace's own premises.
use Rattle.meaning.proofs.Kit.{ne_eqb}
use Rattle.board.specs.Furnaces.{held_by, with_held}
use Rattle.board.proofs.changes.with_flag.Goals as goal

pub returns-then-furnace-eq1 : goal.returns-then-furnace-eq1
unfolding held_by with_held
returns-then-furnace-eq1 c = rw c.if-furnace-eq1.true

pub returns-then-furnace-eq2 : goal.returns-then-furnace-eq2
unfolding held_by with_held
returns-then-furnace-eq2 c = rw c.if-furnace-eq2.true

pub returns-else-furnace-eq2 : goal.returns-else-furnace-eq2
unfolding with_held
returns-else-furnace-eq2 c = rw (ne_eqb _ _ c.if-furnace-eq1.false, ne_eqb _ _ c.if-furnace-eq2.false)
