-- `writing::literal_size` meets its contract, by the sign: a negative literal has its sign besides.
use Rattle.meaning.proofs.Kit.{ap, arith, length}
use Rattle.spelling.proofs.Pieces.{literal_most, literal_neg, literal_pos}
use Rattle.dimacs.proofs.writing.literal_size.Goals as goal

pub overflow_add-result : goal.overflow_add-result
overflow_add-result c = omega (arith, ap length (literal_neg c.ranges.l _ c.symbol-n.ensures c.if-l-lt0.true), literal_most c.ranges.l)

pub returns-then-l-lt0 : goal.returns-then-l-lt0
returns-then-l-lt0 c = omega (arith, ap length (literal_neg c.ranges.l _ c.symbol-n.ensures c.if-l-lt0.true))

pub returns : goal.returns
returns c = omega (arith, ap length (literal_pos c.ranges.l _ c.symbol-n.ensures c.if-l-lt0.false))
