use Rattle.meaning.proofs.Kit.{arith}
use Rattle.literals.proofs.Scanning.{left_all}
use Rattle.index.proofs.Reading.{reading, read_end, read_last, read_allowed, read_literal}
use Rattle.findings.proofs.Queueing.{queued_none, queued_more}
use Rattle.rounds.proofs.Marking.{passed_none, passed_more, passed_all}
use Rattle.rounds.proofs.marks.mark_all.Goals as goal

pub loop-l-init : goal.loop-l-init
loop-l-init c =
    record {
      passed = rw (left_all c.args.table.now c.args.row) (passed_none c.requires.k_lt_none);
      queued = queued_none c.requires.room.count;
    }

pub place-requires : goal.place-requires
place-requires c = read_allowed (reading c.args.row c.requires.fit c.loop-l.l-index c.loop-l-test.true) c.if-l-eq0.false

pub mark_place-next-requires-clause-p_in_bounds : goal.mark_place-next-requires-clause-p_in_bounds
mark_place-next-requires-clause-p_in_bounds c =
    let here = reading c.args.row c.requires.fit c.loop-l.l-index c.loop-l-test.true in
    omega (arith, (read_literal here c.if-l-eq0.false c.place.ensures).inside, c.loop-l.auto.ranks)

pub loop-l-preserved : goal.loop-l-preserved
loop-l-preserved c =
    let here = reading c.args.row c.requires.fit c.loop-l.l-index c.loop-l-test.true in
    let i = c.loop-l.invariant in
    let e = c.mark_place-next.ensures in
    record {
      passed = passed_more c.requires.k_lt_none (rw (read_literal here c.if-l-eq0.false c.place.ensures).first at i.passed) e.ranks_after;
      queued = queued_more c.loop-l.auto.ranks i.queued e.queued;
    }

pub returns-after-loop-l-clause-ranks_after : goal.returns-after-loop-l-clause-ranks_after
returns-after-loop-l-clause-ranks_after c =
    passed_all c.requires.k_lt_none (rw (read_last c.args.row c.requires.fit c.loop-l.l-index c.loop-l-test.false) at c.loop-l.invariant.passed)

pub returns-then-l-eq0-clause-ranks_after : goal.returns-then-l-eq0-clause-ranks_after
returns-then-l-eq0-clause-ranks_after c =
    let here = reading c.args.row c.requires.fit c.loop-l.l-index c.loop-l-test.true in
    passed_all c.requires.k_lt_none (rw (read_end here c.if-l-eq0.true) at c.loop-l.invariant.passed)
