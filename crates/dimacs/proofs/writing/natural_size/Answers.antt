-- `writing::natural_size` meets its contract: a digit fewer, and the last one.
use Rattle.meaning.proofs.Kit.{ap, arith, length}
use Rattle.spelling.proofs.Pieces.{natural_longer, natural_most, natural_short}
use Rattle.dimacs.proofs.writing.natural_size.Goals as goal

pub overflow_add-size : goal.overflow_add-size
overflow_add-size c = omega (arith, c.loop-left.invariant, natural_most 19 c.args.n (omega arith))

pub loop-left-preserved : goal.loop-left-preserved
loop-left-preserved c = omega (arith, c.loop-left.invariant, natural_longer c.loop-left.left c.loop-left-test.true)

pub returns : goal.returns
returns c = omega (arith, c.loop-left.invariant, ap length (natural_short c.loop-left.left c.loop-left-test.false))
