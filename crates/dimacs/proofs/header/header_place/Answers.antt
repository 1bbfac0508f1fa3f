-- `header::header_place` meets its contract.
use Rattle.meaning.proofs.Kit.{arith}
use Rattle.dimacs.specs.Words.{ends}
use Rattle.dimacs.proofs.Scanning.{place_after}
use Rattle.dimacs.proofs.Comments.{passed_all, passed_here, passed_last, passed_more}
use Rattle.dimacs.proofs.header.header_place.Goals as goal

pub loop-i-smaller-then-i-text : goal.loop-i-smaller-then-i-text
loop-i-smaller-then-i-text c =
    let p = c.line_end-i.ensures in
    omega (arith, p.within, c.if-i-text.true, place_after ends c.loop-i.i p c.loop-i.invariant.within)

pub loop-i-preserved-then-i-text : goal.loop-i-preserved-then-i-text
loop-i-preserved-then-i-text c = passed_more c.loop-i.invariant c.loop-i-test.true c.if-text-i-eq99.true c.line_end-i.ensures c.if-i-text.true

pub loop-i-preserved : goal.loop-i-preserved
loop-i-preserved c = passed_last c.loop-i.invariant c.loop-i-test.true c.if-text-i-eq99.true c.line_end-i.ensures c.if-i-text.false

pub returns-else-text-i-eq99 : goal.returns-else-text-i-eq99
returns-else-text-i-eq99 c = passed_here c.loop-i.invariant c.loop-i-test.true c.if-text-i-eq99.false

pub returns-after-loop-i : goal.returns-after-loop-i
returns-after-loop-i c = passed_all c.loop-i.invariant c.loop-i-test.false
