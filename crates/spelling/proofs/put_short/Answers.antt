-- `put_short` meets its contract, by the number of digits.
use Rattle.meaning.proofs.Kit.{ap, arith, length, length-set}
use Rattle.spelling.proofs.Pieces.{natural_short, natural_three, natural_two, put_one, put_three, put_two}
use Rattle.spelling.proofs.put_short.Goals as goal

pub bounds-out-at : goal.bounds-out-at
bounds-out-at c = omega (arith, ap length (natural_short c.args.n c.if-n-lt10.true))

pub returns-then-n-lt10 : goal.returns-then-n-lt10
returns-then-n-lt10 c = rw (natural_short _ c.if-n-lt10.true) (put_one _ _ _)

pub bounds-out-at-then-n-lt100 : goal.bounds-out-at-then-n-lt100
bounds-out-at-then-n-lt100 c = omega (arith, ap length (natural_two c.args.n c.if-n-lt10.false c.if-n-lt100.true))

pub bounds-out-at-then-n-lt100-2 : goal.bounds-out-at-then-n-lt100-2
bounds-out-at-then-n-lt100-2 c = simp length-set (omega (arith, ap length (natural_two c.args.n c.if-n-lt10.false c.if-n-lt100.true)))

pub returns-then-n-lt100 : goal.returns-then-n-lt100
returns-then-n-lt100 c = rw (natural_two _ c.if-n-lt10.false c.if-n-lt100.true) (put_two _ _ _ _)

pub bounds-out-at-2 : goal.bounds-out-at-2
bounds-out-at-2 c = omega (arith, ap length (natural_three c.args.n c.if-n-lt100.false c.requires.n_bound))

pub bounds-out-at-3 : goal.bounds-out-at-3
bounds-out-at-3 c = simp length-set (omega (arith, ap length (natural_three c.args.n c.if-n-lt100.false c.requires.n_bound)))

pub bounds-out-at-4 : goal.bounds-out-at-4
bounds-out-at-4 c = simp length-set (omega (arith, ap length (natural_three c.args.n c.if-n-lt100.false c.requires.n_bound)))

pub returns : goal.returns
returns c = rw (natural_three _ c.if-n-lt100.false c.requires.n_bound) (put_three _ _ _ _ _)
