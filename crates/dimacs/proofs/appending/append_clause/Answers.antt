-- `appending::append_clause` meets its contract: a clause that is always true leaves the table as it is.
use Rattle.meaning.proofs.Kit.{sym}
use Rattle.implicates.proofs.Appending.{appended_none}
use Rattle.dimacs.proofs.appending.append_clause.Goals as goal

pub returns-then-k-clause-table_after : goal.returns-then-k-clause-table_after
returns-then-k-clause-table_after c = rw c.if-k.true (sym (appended_none c.args.table.now c.args.row))
