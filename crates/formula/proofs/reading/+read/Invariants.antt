-- The measure of `reading::read` is the depth left.
use Rattle.formula.proofs.reading.+read.Given as goal

abbrev pub decreases-read : goal.decreases-read
decreases-read l = l.depth
