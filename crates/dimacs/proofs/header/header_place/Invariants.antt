-- The loop of `header::header_place`: only comment lines stand before i. The measure is how many bytes are left.
use Rattle.meaning.proofs.Kit.{◌-◌, length}
use Rattle.dimacs.proofs.Comments.{Passed}
use Rattle.dimacs.proofs.header.header_place.Given as goal

abbrev pub invariant-loop-i : goal.invariant-loop-i
invariant-loop-i l = Passed l.text l.i

abbrev pub decreases-loop-i : goal.decreases-loop-i
decreases-loop-i l = length l.text - l.i
