-- `literals::literal_count` meets its contract.
use Rattle.meaning.proofs.Kit.{◌≡◌, arith, pos, nat_abs, get_or, w16, SFits}
use Rattle.literals.proofs.Signed.{bits_zero, zero_bits}
use Rattle.literals.proofs.Rows.{lent, lent_long}
use Rattle.literals.proofs.Counting.{count_next, count_none, count_stop}
use Rattle.literals.proofs.literal_count.Goals as goal

pub returns-then-l-eq0 : goal.returns-then-l-eq0
returns-then-l-eq0 c =
    let row = lent c.args.table.now c.args.at in
    let fits : SFits w16 (get_or row c.loop-n.n (pos 0)) = record { sfits = omega arith } in
    omega (arith, count_stop row c.loop-n.n c.loop-n-test.true (zero_bits fits c.if-l-eq0.true), c.loop-n.invariant)

pub loop-n-preserved : goal.loop-n-preserved
loop-n-preserved c =
    let row = lent c.args.table.now c.args.at in
    let some : nat_abs (get_or row c.loop-n.n (pos 0)) ≡ 0 → ⊥ = λ z. c.if-l-eq0.false (bits_zero (get_or row c.loop-n.n (pos 0)) z) in
    omega (arith, count_next row c.loop-n.n c.loop-n-test.true some, c.loop-n.invariant)

pub returns : goal.returns
returns c =
    let row = lent c.args.table.now c.args.at in
    omega (arith, lent_long c.args.table.now c.args.at c.requires, count_none row c.loop-n.n c.loop-n-test.false, c.loop-n.invariant)
