-- `writing::put_text` meets its contract: the header, and the rows behind it.
use Rattle.meaning.proofs.Kit.{arith}
use Rattle.spelling.proofs.Pieces.{put_length}
use Rattle.dimacs.proofs.TextLines.{text_put, text_size}
use Rattle.dimacs.proofs.writing.put_text.Goals as goal

pub put_counts-next-requires : goal.put_counts-next-requires
put_counts-next-requires c = omega (arith, c.requires.table_in_bounds, text_size c.args.table.now c.args.symbols c.args.used)

pub put_rows-requires-clause-table_in_bounds : goal.put_rows-requires-clause-table_in_bounds
put_rows-requires-clause-table_in_bounds c =
    let put = c.put_counts-next.ensures in
    omega (arith, c.requires.table_in_bounds, text_size c.args.table.now c.args.symbols c.args.used, put.ends, put_length put)

pub returns : goal.returns
returns c = text_put c.args.table.now c.args.symbols c.args.used c.put_counts-next.ensures c.put_rows.ensures
