-- `words::line_end` meets its contract.
use Rattle.meaning.proofs.Kit.{◌≡◌, arith, length, ne_eqb, eq-eqb}
use Rattle.dimacs.specs.Words.{ends}
use Rattle.dimacs.proofs.Scanning.{sought_none, sought_more, sought_here, sought_end}
use Rattle.dimacs.proofs.words.line_end.Goals as goal

pub loop-i-init : goal.loop-i-init
loop-i-init c = sought_none ends c.args.text.now c.args.at c.requires

pub loop-i-preserved : goal.loop-i-preserved
loop-i-preserved c =
    let l = c.loop-i in
    sought_more l.invariant (omega (arith, c.loop-i-test.true)) (ne_eqb _ 10 c.if-text-i-eq10.false)

pub returns-then-text-i-eq10 : goal.returns-then-text-i-eq10
returns-then-text-i-eq10 c = sought_here c.loop-i.invariant (omega (arith, c.loop-i-test.true)) (eq-eqb _ 10 c.if-text-i-eq10.true)

pub returns : goal.returns
returns c =
    let text = c.args.text.now in
    let end : c.loop-i.i ≡ length text = omega (arith, c.loop-i-test.false, c.loop-i.invariant.within) in
    rw end at (sought_end c.loop-i.invariant (omega arith))
