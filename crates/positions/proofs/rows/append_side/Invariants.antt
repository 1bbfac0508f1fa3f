-- The rows of the positions before i are written.
use Rattle.positions.specs.Writing.{side_of}
use Rattle.positions.proofs.SideRows.{Written}
use Rattle.positions.proofs.rows.append_side.Given as goal

abbrev pub invariant-loop-i : goal.invariant-loop-i
invariant-loop-i l = Written (side_of l.v) l.rules l.row l.initial.table l.table l.i
