-- `writing::put_rows` meets its contract.
use Rattle.meaning.proofs.Kit.{arith}
use Rattle.spelling.proofs.Pieces.{put_none}
use Rattle.dimacs.proofs.TextLines.{lines_none, lines_put, lines_room}
use Rattle.dimacs.proofs.writing.put_rows.Goals as goal

pub loop-row-init : goal.loop-row-init
loop-row-init c = rw (lines_none c.args.table.now) (put_none _ _)

pub put_row-next-requires-clause-row_in_bounds : goal.put_row-next-requires-clause-row_in_bounds
put_row-next-requires-clause-row_in_bounds c =
    let l = c.loop-row in
    omega (arith, lines_room c.args.table.now l.row c.args.used c.loop-row-test.true, l.invariant.ends)

pub loop-row-preserved : goal.loop-row-preserved
loop-row-preserved c = lines_put c.args.table.now c.loop-row.row c.loop-row.invariant c.put_row-next.ensures
