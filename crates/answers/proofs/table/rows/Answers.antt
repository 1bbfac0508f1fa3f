-- The rows in use of a good board lie within the table.
use Rattle.meaning.proofs.Kit.{arith, sym, ◌∙◌}
use Rattle.board.proofs.Goodness.{good_is}
use Rattle.answers.proofs.table.rows.Goals as goal

pub say_rows-requires : goal.say_rows-requires
say_rows-requires g c =
    let good = good_is c.args.table.now c.args.desk.board (sym c.good.ensures ∙ c.if-not-good.false) in
    (c.requires, omega (arith, good.lent))
