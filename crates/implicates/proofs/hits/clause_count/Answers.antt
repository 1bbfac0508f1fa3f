-- `clause_count` meets its contract: there are few symbols, so the power fits.
use Rattle.meaning.proofs.Kit.{arith}
use Rattle.implicates.proofs.Numbers.{clauses_more}
use Rattle.implicates.proofs.hits.clause_count.Goals as goal

pub pow-requires : goal.pow-requires
pow-requires c = omega (arith, clauses_more c.args.n 8 c.requires)
