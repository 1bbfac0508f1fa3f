use Rattle.meaning.proofs.Kit.{◌≡◌, ◌∙◌, sym, refl, List, ℕ, ◌<◌, arith, ℤ, get_or}
use Rattle.meaning.specs.Tests.{none}
use Rattle.literals.specs.Row.{rows_in, Fit}
use Rattle.literals.proofs.Decoding.{length_rows}
use Rattle.literals.proofs.Scanning.{fit_row, few_rows}
use Rattle.findings.specs.Queue.{marked}
use Rattle.findings.specs.Ranks.{support_from}
use Rattle.findings.proofs.Queueing.{counted_le, queued_none}
use Rattle.findings.proofs.Joining.{join_never, leads_nowhere, support_row, leads_by}
use Rattle.findings.proofs.Reaching.{trail_none, trail_more, trail_all}
use Rattle.findings.proofs.reach.follow.Goals as goal
use Rattle.findings.proofs.reach.follow.Goals.{then-row, else-row}

-- a support is the number of one of the rows
row_below : {places used : ℕ} {table : List ℤ} (ranks : List ℕ) (p : ℕ) {r : ℕ} → Fit places used table → r ≡ support_from (rows_in used table) ranks p
    → (r ≡ none → ⊥) → r < used
row_below {used} {table} ranks p fit is some =
    omega (arith, is, support_row (rows_in used table) ranks p (few_rows fit) (λ e. some (is ∙ e)), length_rows used table)

pub loop-at-init : goal.loop-at-init
loop-at-init c = trail_none c.requires.room c.requires.queued

-- the queue is no longer than there are places
pub offset_bounds-queue-at : goal.offset_bounds-queue-at
offset_bounds-queue-at c = omega (arith, counted_le marked c.loop-at.marks)

pub bounds-queue-at : goal.bounds-queue-at
bounds-queue-at c = omega (arith, counted_le marked c.loop-at.marks)

pub mark_others-next-requires-clause-fit : goal.mark_others-next-requires-clause-fit
mark_others-next-requires-clause-fit c =
    let r = c.support-row in
    rw c.loop-at.invariant.long (fit_row _ c.args.rows _ c.requires.fit r.result (row_below c.args.ranks.now _ c.requires.fit r.ensures c.if-row.true))

pub overflow_add-at : goal.overflow_add-at
overflow_add-at c = omega (arith, counted_le marked c.loop-at.marks)

pub loop-at-smaller : goal.loop-at-smaller
loop-at-smaller c = omega (arith, counted_le marked c.loop-at.marks)

pub loop-at-preserved : goal.loop-at-preserved
loop-at-preserved c =
    let a = c.args in
    let w = c.loop-at.invariant in
    let p = get_or c.loop-at.queue c.loop-at.at 0 in
    let r = c.support-row in
    elim c.if-row.branch [
      | then-row y ↦ rw (y.marks-is, y.queue-is, y.next-is)
          (trail_more w c.loop-at-test.true
          (y.mark_others-next.ensures.marks_after
          ∙ rw (leads_by a.rows a.table.now a.ranks.now p r.result r.ensures (row_below a.ranks.now p c.requires.fit r.ensures y.if-row.true)))
          y.mark_others-next.ensures.queued y.mark_others-next.auto.queue)
      | else-row y ↦ rw (y.marks-is, y.queue-is, y.next-is)
          (trail_more w c.loop-at-test.true
          (join_never c.loop-at.marks _
          (leads_nowhere (rows_in a.rows a.table.now) a.ranks.now p (few_rows c.requires.fit) (sym r.ensures ∙ y.if-row.false)))
          (queued_none w.room.count) refl)
    ]

pub returns : goal.returns
returns c = trail_all c.loop-at.invariant c.loop-at-test.false
