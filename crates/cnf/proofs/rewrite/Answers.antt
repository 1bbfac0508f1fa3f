-- `rewrite` meets its contract: by the header, and by the board opened for it.
use Rattle.std.proofs.Common.{◌∙◌, sym}
use Rattle.cnf.proofs.Making.{made_broken, made_none, made_on}
use Rattle.cnf.proofs.rewrite.Goals as goal

pub returns-in-None : goal.returns-in-None
returns-in-None c = made_broken _ _ _ (sym c.in-None.is ∙ c.header.ensures)

pub returns-in-Ok : goal.returns-in-Ok
returns-in-Ok c =
    made_on _ _ _ (sym c.in-Some.is ∙ c.header.ensures) c.open-change.ensures c.in-Ok.is c.rewrite_on.ensures

pub returns-in-Err : goal.returns-in-Err
returns-in-Err c = made_none _ _ _ (sym c.in-Some.is ∙ c.header.ensures) c.open-change.ensures c.in-Err.is
