-- `put_natural` meets its contract, by the last digit.
use Rattle.meaning.proofs.Kit.{ap, arith, length}
use Rattle.spelling.proofs.Pieces.{natural_long, natural_longer, natural_short, put_length, put_one, put_put}
use Rattle.spelling.proofs.+put_natural.Goals as goal

pub bounds-out-at : goal.bounds-out-at
bounds-out-at t c = omega (arith, ap length (natural_short c.args.n c.if-n-lt10.true))

pub returns-then-n-lt10 : goal.returns-then-n-lt10
returns-then-n-lt10 t c = rw (natural_short _ c.if-n-lt10.true) (put_one _ _ _)

pub put_natural-next-requires : goal.put_natural-next-requires
put_natural-next-requires t c = (omega arith, omega (arith, natural_longer c.args.n c.if-n-lt10.false))

-- there is room for the last digit after the others
pub bounds-out-next : goal.bounds-out-next
bounds-out-next t c = omega (arith, put_length c.put_natural-next.ensures, natural_longer c.args.n c.if-n-lt10.false)

pub overflow_add-result-2 : goal.overflow_add-result-2
overflow_add-result-2 t c = omega (arith, natural_longer c.args.n c.if-n-lt10.false)

pub returns : goal.returns
returns t c = rw (natural_long c.args.n c.if-n-lt10.false) (put_put _ _ c.put_natural-next.ensures (put_one _ _ _))
