-- The measure of `fill_hits`: n, one less in both calls.
use Rattle.implicates.proofs.hits.+fill_hits.Given as goal

abbrev pub decreases-fill_hits : goal.decreases-fill_hits
decreases-fill_hits l = l.n
