-- `writing::put_row` meets its contract: the part that it writes is the row's literals.
use Rattle.meaning.proofs.Kit.{ap, List, ◌*◌, arith, ℤ, length}
use Rattle.literals.specs.Row.{width}
use Rattle.literals.proofs.Counting.{count_few}
use Rattle.dimacs.specs.Writing.{clause_line}
use Rattle.dimacs.proofs.RowLiterals.{part_is}
use Rattle.dimacs.proofs.writing.put_row.Goals as goal

pub overflow_add-from : goal.overflow_add-from
overflow_add-from c = omega (arith, c.literal_count-n.ensures, count_few c.args.table.now (width * c.args.row))

pub slice_bounds-put_line-end : goal.slice_bounds-put_line-end
slice_bounds-put_line-end c = omega (arith, c.literal_count-n.ensures, count_few c.args.table.now (width * c.args.row))

pub put_line-requires : goal.put_line-requires
put_line-requires c =
    let part = part_is c.args.table.now c.args.row c.literal_count-n.result c.literal_count-n.ensures in
    omega (arith, ap (λ (ls : List ℤ). length (clause_line ls)) part)

pub returns : goal.returns
returns c = rw (part_is c.args.table.now c.args.row c.literal_count-n.result c.literal_count-n.ensures) at c.put_line.ensures
