-- `writing::row_size` meets its contract: the part that it measures is the row's literals.
use Rattle.meaning.proofs.Kit.{◌∙◌, ap, List, ◌*◌, arith, ℤ, length}
use Rattle.literals.specs.Row.{width}
use Rattle.literals.proofs.Counting.{count_few}
use Rattle.dimacs.specs.Writing.{clause_line}
use Rattle.dimacs.proofs.RowLiterals.{clause_few, part_is}
use Rattle.dimacs.proofs.writing.row_size.Goals as goal

pub overflow_add-at : goal.overflow_add-at
overflow_add-at c = omega (arith, c.literal_count-n.ensures, count_few c.args.table.now (width * c.args.row))

pub slice_bounds-line_size-end : goal.slice_bounds-line_size-end
slice_bounds-line_size-end c = omega (arith, c.literal_count-n.ensures, count_few c.args.table.now (width * c.args.row))

pub line_size-requires : goal.line_size-requires
line_size-requires c =
    let part = part_is c.args.table.now c.args.row c.literal_count-n.result c.literal_count-n.ensures in
    omega (arith, ap length part, clause_few c.args.table.now c.args.row)

pub returns : goal.returns
returns c =
    let part = part_is c.args.table.now c.args.row c.literal_count-n.result c.literal_count-n.ensures in
    (c.line_size.ensures.0 ∙ ap (λ (ls : List ℤ). length (clause_line ls)) part, c.line_size.ensures.1)
