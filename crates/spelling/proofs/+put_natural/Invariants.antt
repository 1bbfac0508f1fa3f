-- The measure of `put_natural` is the number itself.
use Rattle.spelling.proofs.+put_natural.Given as goal

abbrev pub decreases-put_natural : goal.decreases-put_natural
decreases-put_natural l = l.n
