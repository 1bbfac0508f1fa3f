-- `write_rows` meets its contract: by the outcome of the writing.
use Rattle.cnf.proofs.Making.{rows_done, rows_refused}
use Rattle.cnf.proofs.write_rows.Goals as goal

pub returns-in-Ok : goal.returns-in-Ok
returns-in-Ok c = rows_done _ _ _ c.write-writing.ensures.value c.write-writing.ensures.out_after c.in-Ok.is

pub returns-in-Err : goal.returns-in-Err
returns-in-Err c = rows_refused _ _ _ c.write-writing.ensures.value c.write-writing.ensures.out_after c.in-Err.is
