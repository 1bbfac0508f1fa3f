-- The measure of `wording::put_number` is the number itself.
use Rattle.chains.proofs.wording.+put_number.Given as goal

abbrev pub decreases-put_number : goal.decreases-put_number
decreases-put_number l = l.n
