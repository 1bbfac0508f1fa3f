-- The place of a literal of a board is below 400.
use Rattle.meaning.proofs.Kit.{arith}
use Rattle.board.proofs.Placing.{placed_at}
use Rattle.answers.proofs.tree.why.Goals as goal

pub say_why-requires : goal.say_why-requires
say_why-requires g c =
    let at = placed_at c.args.table.now c.args.desk.board c.args.desk.furnace c.ranges.l c.place_on.ensures c.in-Ok.is in
    (c.requires.0, c.requires.1, omega (arith, at.low, at.good))
