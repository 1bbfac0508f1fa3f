-- The row of position i is written, and after the last position all of them are.
use Rattle.positions.proofs.SideRows.{written_one, written_all}
use Rattle.positions.proofs.rows.append_side.Goals as goal

pub loop-i-preserved : goal.loop-i-preserved
loop-i-preserved c = rw c.append_clause.ensures (written_one _ _ _ _ _ _ c.loop-i.invariant c.loop-i-test.true c.requires.2)

pub returns : goal.returns
returns c = written_all _ _ _ _ _ _ c.loop-i.invariant c.loop-i-test.false
