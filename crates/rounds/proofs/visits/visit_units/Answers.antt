use Rattle.meaning.proofs.Kit.{subst, ⊎_elim, inl, inr, ◌≤◌, ◌<◌, arith, get_or}
use Rattle.literals.proofs.Scanning.{fit_row}
use Rattle.findings.proofs.Queueing.{same_or_not, queued_none, queued_more}
use Rattle.rounds.proofs.Looking.{looked_none, looked_lone, looked_more, looked_less}
use Rattle.rounds.proofs.Counting.{counts_long, counts_at}
use Rattle.rounds.proofs.visits.visit_units.Goals as goal
use Rattle.rounds.proofs.visits.visit_units.Goals.{then-count-lt2, else-count-lt2}

pub loop-row-init : goal.loop-row-init
loop-row-init c =
    record { looked = looked_none (λ r h d. omega (arith, d.0)); queued = queued_none c.requires.room.count }

pub mark_all-next-requires-clause-fit : goal.mark_all-next-requires-clause-fit
mark_all-next-requires-clause-fit c =
    rw c.loop-row.auto.ranks
    (fit_row _ c.args.rows _ c.requires.fit c.loop-row.row
    (omega (arith, counts_long c.args.rows c.args.table.now c.requires.counts_value, c.loop-row-test.true)))

pub loop-row-preserved : goal.loop-row-preserved
loop-row-preserved c =
    let row = c.loop-row.row in
    let i = c.loop-row.invariant in
    let counts = c.args.counts.now in
    let below : row < c.args.rows = omega (arith, counts_long c.args.rows c.args.table.now c.requires.counts_value, c.loop-row-test.true) in
    let is = counts_at c.args.rows c.args.table.now c.requires.counts_value row below in
    elim c.if-count-lt2.branch [
      | then-count-lt2 w ↦ record {
        looked = rw w.ranks-is (looked_more (omega arith) i.looked
            (looked_lone row below (omega (arith, is, w.if-count-lt2.true)) w.mark_all-next.ensures.ranks_after)
            (λ r h d. ⊎_elim (λ z. inr z) (λ z. inl (omega (arith, d.0, z), d.1)) (same_or_not r row)));
        queued = rw (w.ranks-is, w.queue-is, w.next-is) (queued_more c.loop-row.auto.ranks i.queued w.mark_all-next.ensures.queued);
      }
      | else-count-lt2 w ↦ record {
        looked = rw w.ranks-is (looked_less i.looked
            (λ r h d. ⊎_elim
            (λ z. absurd (omega (arith, w.if-count-lt2.false, subst (λ x. get_or counts x 0 ≤ 1) z d.1)))
            (λ z. (omega (arith, d.0, z), d.1))
            (same_or_not r row)));
        queued = rw (w.ranks-is, w.queue-is, w.next-is) i.queued;
      }
    ]

pub returns-clause-looked : goal.returns-clause-looked
returns-clause-looked c =
    let long = counts_long c.args.rows c.args.table.now c.requires.counts_value in
    looked_less c.loop-row.invariant.looked (λ r h d. (omega (arith, c.loop-row-test.false, long, h), d))
