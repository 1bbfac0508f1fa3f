use Rattle.meaning.proofs.Kit.{arith}
use Rattle.literals.proofs.Scanning.{left_all}
use Rattle.index.proofs.Reading.{reading, read_end, read_last, read_allowed, read_literal, read_opposite_allowed, read_opposite_place_allowed, read_opposite_is}
use Rattle.findings.proofs.Joining.{crossed_none, crossed_same, crossed_other, crossed_all}
use Rattle.findings.proofs.reach.mark_others.Goals as goal
use Rattle.findings.proofs.reach.mark_others.Goals.{then-place-p, else-place-p}

pub loop-l-init : goal.loop-l-init
loop-l-init c = rw (left_all c.args.table.now c.args.row) (crossed_none c.requires.room.count)

pub place-requires : goal.place-requires
place-requires c = read_allowed (reading c.args.row c.requires.fit c.loop-l.l-index c.loop-l-test.true) c.if-l-eq0.false

pub opposite-requires : goal.opposite-requires
opposite-requires c = read_opposite_allowed (reading c.args.row c.requires.fit c.loop-l.l-index c.loop-l-test.true) c.if-l-eq0.false

pub place-requires-then-place-p : goal.place-requires-then-place-p
place-requires-then-place-p c =
    read_opposite_place_allowed (reading c.args.row c.requires.fit c.loop-l.l-index c.loop-l-test.true) c.if-l-eq0.false c.opposite.ensures

pub mark_literal-next-requires-clause-p_in_bounds : goal.mark_literal-next-requires-clause-p_in_bounds
mark_literal-next-requires-clause-p_in_bounds c =
    let here = reading c.args.row c.requires.fit c.loop-l.l-index c.loop-l-test.true in
    let other = read_opposite_is here c.if-l-eq0.false c.opposite.ensures c.place-then-place-p.ensures c.place.ensures in
    omega (arith, other, (read_literal here c.if-l-eq0.false c.place.ensures).opposite, c.loop-l.invariant.long)

pub loop-l-preserved : goal.loop-l-preserved
loop-l-preserved c =
    let here = reading c.args.row c.requires.fit c.loop-l.l-index c.loop-l-test.true in
    let crossed = rw (read_literal here c.if-l-eq0.false c.place.ensures).first at c.loop-l.invariant in
    elim c.if-place-p.branch [
      | then-place-p w ↦ let other = read_opposite_is here c.if-l-eq0.false w.opposite.ensures w.place-then-place-p.ensures c.place.ensures in
          rw (w.marks-is, w.queue-is, w.next-is)
          (crossed_other crossed w.if-place-p.true other w.mark_literal-next.ensures.marks_after w.mark_literal-next.ensures.queued
          w.mark_literal-next.auto.queue)
      | else-place-p w ↦ rw (w.marks-is, w.queue-is, w.next-is) (crossed_same crossed w.if-place-p.false)
    ]

pub returns-after-loop-l-clause-marks_after : goal.returns-after-loop-l-clause-marks_after
returns-after-loop-l-clause-marks_after c =
    (crossed_all (rw (read_last c.args.row c.requires.fit c.loop-l.l-index c.loop-l-test.false) at c.loop-l.invariant)).0

pub returns-then-l-eq0-clause-marks_after : goal.returns-then-l-eq0-clause-marks_after
returns-then-l-eq0-clause-marks_after c =
    let here = reading c.args.row c.requires.fit c.loop-l.l-index c.loop-l-test.true in
    (crossed_all (rw (read_end here c.if-l-eq0.true) at c.loop-l.invariant)).0
