-- A number is tested against one furnace and then the other.
use Rattle.meaning.proofs.Kit.{ne_eqb}
use Rattle.board.specs.Furnaces.{is_furnace}
use Rattle.board.proofs.testing.is_furnace.Goals as goal

pub returns-then-furnace-eq1 : goal.returns-then-furnace-eq1
unfolding is_furnace
returns-then-furnace-eq1 c = rw c.if-furnace-eq1.true

pub returns : goal.returns
unfolding is_furnace
returns c = rw (ne_eqb _ _ c.if-furnace-eq1.false)
