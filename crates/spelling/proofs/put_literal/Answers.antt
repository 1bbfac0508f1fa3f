-- `put_literal` meets its contract, by the sign.
use Rattle.meaning.proofs.Kit.{ap, arith, length, length-set}
use Rattle.spelling.proofs.Pieces.{literal_neg, literal_pos, put_one, put_put}
use Rattle.spelling.proofs.put_literal.Goals as goal

pub bounds-out-at : goal.bounds-out-at
bounds-out-at c = omega (arith, ap length (literal_neg c.ranges.l _ c.symbol-n.ensures c.if-l-lt0.true))

pub put_symbol-requires : goal.put_symbol-requires
put_symbol-requires c = simp length-set (omega (arith, ap length (literal_neg c.ranges.l _ c.symbol-n.ensures c.if-l-lt0.true)))

pub returns-then-l-lt0 : goal.returns-then-l-lt0
returns-then-l-lt0 c = rw (literal_neg c.ranges.l _ c.symbol-n.ensures c.if-l-lt0.true) (put_put _ _ (put_one _ _ _) c.put_symbol.ensures)

pub put_symbol-requires-2 : goal.put_symbol-requires-2
put_symbol-requires-2 c = omega (arith, ap length (literal_pos c.ranges.l _ c.symbol-n.ensures c.if-l-lt0.false))

pub returns : goal.returns
returns c = rw (literal_pos c.ranges.l _ c.symbol-n.ensures c.if-l-lt0.false) c.put_symbol-2.ensures
