-- The measure of `truth::evaluate` is the depth left.
use Rattle.formula.proofs.truth.+evaluate.Given as goal

abbrev pub decreases-evaluate : goal.decreases-evaluate
decreases-evaluate l = l.depth
