use Rattle.meaning.proofs.Kit.{refl, true, false, arith}
use Rattle.findings.proofs.Joining.{join_one, join_marked}
use Rattle.findings.proofs.Queueing.{queued_one, queued_free}
use Rattle.findings.proofs.reach.mark_literal.Goals as goal

pub returns-then-marks-p-clause-marks_after : goal.returns-then-marks-p-clause-marks_after
returns-then-marks-p-clause-marks_after c = join_marked _ _ c.if-marks-p.true

-- there is room in the queue
pub offset_bounds-queue-end : goal.offset_bounds-queue-end
offset_bounds-queue-end c = omega (arith, queued_free false c.requires.room c.args.p c.requires.p_in_bounds c.if-marks-p.false)

pub bounds-queue-end : goal.bounds-queue-end
bounds-queue-end c = queued_free false c.requires.room c.args.p c.requires.p_in_bounds c.if-marks-p.false

pub overflow_add-result : goal.overflow_add-result
overflow_add-result c = omega (arith, queued_free false c.requires.room c.args.p c.requires.p_in_bounds c.if-marks-p.false)

pub returns-clause-marks_after : goal.returns-clause-marks_after
returns-clause-marks_after c = join_one _ _ c.requires.p_in_bounds

pub returns-clause-queued : goal.returns-clause-queued
returns-clause-queued c = queued_one c.requires.room c.args.p true c.requires.p_in_bounds c.if-marks-p.false refl
