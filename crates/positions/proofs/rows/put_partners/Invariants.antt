-- The partners before j are put.
use Rattle.positions.specs.Writing.{side_of}
use Rattle.positions.proofs.Partners.{Gathered}
use Rattle.positions.proofs.rows.put_partners.Given as goal

abbrev pub invariant-loop-j : goal.invariant-loop-j
invariant-loop-j l = Gathered (side_of l.v) l.i l.at l.initial.row l.row l.n l.j
