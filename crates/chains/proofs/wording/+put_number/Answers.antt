-- `wording::put_number` meets its contract.
use Rattle.meaning.proofs.Kit.{ap, refl, [], ◌∷◌, ◌+◌, ◌/◌, ◌%◌, arith, length}
use Rattle.spelling.specs.Text.{natural}
use Rattle.spelling.proofs.Pieces.{natural_long, natural_longer, natural_short, put_put}
use Rattle.chains.proofs.wording.+put_number.Goals as goal

pub overflow_add-result : goal.overflow_add-result
overflow_add-result t c = omega (arith, ap length (natural_short c.args.n c.if-n-lt10.true), c.requires)

pub returns-then-n-lt10 : goal.returns-then-n-lt10
returns-then-n-lt10 t c = rw (natural_short c.args.n c.if-n-lt10.true) (record { written = c.put.ensures; ends = refl })

pub put_number-next-requires : goal.put_number-next-requires
put_number-next-requires t c = omega (arith, c.requires, natural_longer c.args.n c.if-n-lt10.false)

pub overflow_add-result-2 : goal.overflow_add-result-2
overflow_add-result-2 t c =
    omega (arith, c.requires, natural_longer c.args.n c.if-n-lt10.false, c.put_number-next.ensures.ends)

pub returns : goal.returns
returns t c =
    let n = c.args.n in
    rw (natural_long n c.if-n-lt10.false)
    (put_put (natural (n / 10)) ((48 + n % 10) ∷ []) c.put_number-next.ensures (record { written = c.put-2.ensures; ends = refl }))
