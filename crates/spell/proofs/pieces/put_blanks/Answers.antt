-- `pieces::put_blanks` meets its contract: a part of the page is filled.
use Rattle.meaning.proofs.Kit.{arith}
use Rattle.spell.proofs.Pages.{blanks_put}
use Rattle.spell.proofs.pieces.put_blanks.Goals as goal

pub returns-clause-put : goal.returns-clause-put
returns-clause-put c = blanks_put c.args.out.now c.args.at c.args.n _ _ c.requires (omega arith) (c.fill.ensures.after (λ y e. e))
