-- `rewrite_on` meets its contract: by the outcome of the reading.
use Rattle.cnf.proofs.Making.{read_done, read_refused}
use Rattle.cnf.proofs.rewrite_on.Goals as goal

pub returns-in-Ok : goal.returns-in-Ok
returns-in-Ok c =
    read_done _ _ _ _ c.read-reading.ensures.value c.read-reading.ensures.table_after c.in-Ok.is c.write_rows.ensures

pub returns-in-Err : goal.returns-in-Err
returns-in-Err c = read_refused _ _ _ _ c.read-reading.ensures.value c.in-Err.is
