-- The measure of `naming::mark` is the depth left.
use Rattle.formula.proofs.naming.+mark.Given as goal

abbrev pub decreases-mark : goal.decreases-mark
decreases-mark l = l.depth
