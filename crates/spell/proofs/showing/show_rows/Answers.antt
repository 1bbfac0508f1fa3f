-- A row has eight literals at most.
use Rattle.std.proofs.Common.{◌*◌, arith, length-take}
use Rattle.literals.specs.Row.{width}
use Rattle.literals.proofs.Counting.{count_few}
use Rattle.spell.proofs.showing.show_rows.Goals as goal

pub overflow_add-at : goal.overflow_add-at
overflow_add-at g c = omega (arith, c.literal_count-n.ensures, count_few c.args.table.now (width * c.loop-row.row))

pub slice_bounds-show_row-end : goal.slice_bounds-show_row-end
slice_bounds-show_row-end g c = omega (arith, c.literal_count-n.ensures, count_few c.args.table.now (width * c.loop-row.row))

pub show_row-requires : goal.show_row-requires
show_row-requires g c = simp length-take (omega (arith, c.literal_count-n.ensures, count_few c.args.table.now (width * c.loop-row.row)))
