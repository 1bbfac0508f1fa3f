-- `variables::mark_single` meets its contract: the next power of two is marked, until all are.
use Rattle.meaning.proofs.Kit.{arith, pow_pos}
use Rattle.positions.proofs.OneTruth.{marked_none, marked_one, marked_all, marked_long}
use Rattle.positions.proofs.variables.mark_single.Goals as goal

pub loop-number-init : goal.loop-number-init
loop-number-init c = rw c.requires.1 (marked_none c.args.n)

pub loop-number-smaller : goal.loop-number-smaller
loop-number-smaller c =
    let i = c.loop-number.invariant in
    omega (arith, i.number_is, pow_pos i.power, c.loop-number-test.true, marked_long i)

pub loop-number-preserved : goal.loop-number-preserved
loop-number-preserved c = marked_one c.loop-number.invariant c.loop-number-test.true

pub returns : goal.returns
returns c = marked_all c.loop-number.invariant (omega (arith, c.loop-number-test.false))
