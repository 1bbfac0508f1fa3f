-- `is_prime` meets its contract: by a table of hits, leaving out one literal decides.
use Rattle.meaning.proofs.Kit.{◌∙◌}
use Rattle.implicates.proofs.Lone.{prime_at}
use Rattle.implicates.proofs.hits.is_prime.Goals as goal

pub returns-then-hits-c : goal.returns-then-hits-c
returns-then-hits-c c = rw c.if-hits-c.true at (prime_at c.args.hits.now c.args.n c.args.c c.requires.0)

pub returns : goal.returns
returns c = c.one_less_hit.ensures ∙ rw c.if-hits-c.false at (prime_at c.args.hits.now c.args.n c.args.c c.requires.0)
