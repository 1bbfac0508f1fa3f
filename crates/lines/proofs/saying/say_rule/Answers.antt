-- `lines::saying::say_rule` meets its contract: the formula's bytes are cut out and handed to the board.
use Rattle.meaning.proofs.Kit.{sym, arith, length-take-le}
use Rattle.lines.specs.Commands.{command_table}
use Rattle.lines.proofs.Reading.{formula_most}
use Rattle.lines.proofs.saying.say_rule.Goals as goal

pub slice_bounds-add_rule-end : goal.slice_bounds-add_rule-end
slice_bounds-add_rule-end c =
    sym (length-take-le _ _ (omega (arith, c.formula_length-size.ensures, formula_most c.args.board.symbols c.args.body.now)))

pub overflow_add-size : goal.overflow_add-size
overflow_add-size c = omega (arith, c.formula_length-size.ensures, formula_most c.args.board.symbols c.args.body.now)

pub returns-clause-table_after : goal.returns-clause-table_after
unfolding command_table
returns-clause-table_after c = rw c.formula_length-size.ensures at c.add_rule-addition.ensures.table_after
