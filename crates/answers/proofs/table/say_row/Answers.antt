-- A row has eight literals at most.
use Rattle.std.proofs.Common.{◌*◌, arith}
use Rattle.literals.specs.Row.{width}
use Rattle.literals.proofs.Counting.{count_few}
use Rattle.answers.proofs.table.say_row.Goals as goal

pub overflow_add-at : goal.overflow_add-at
overflow_add-at g c = omega (arith, c.literal_count-n.ensures, count_few c.args.table.now (width * c.args.row))

pub slice_bounds-say_alternatives-end : goal.slice_bounds-say_alternatives-end
slice_bounds-say_alternatives-end g c = omega (arith, c.literal_count-n.ensures, count_few c.args.table.now (width * c.args.row))
