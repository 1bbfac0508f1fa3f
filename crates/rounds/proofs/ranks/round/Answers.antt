use Rattle.meaning.proofs.Kit.{refl, ◌≤◌, ◌<◌, arith, ◌≡◌, ℕ, get_or}
use Rattle.findings.proofs.Queueing.{counted_le}
use Rattle.rounds.specs.Queue.{ranked}
use Rattle.rounds.proofs.Counting.{counts_kept}
use Rattle.rounds.proofs.Needed.{Begun, begun_first, begun_later, begun_whole}
use Rattle.rounds.proofs.ranks.round.Goals as goal
use Rattle.rounds.proofs.ranks.round.Goals.{then-k-eq0, else-k-eq0}

-- the queue is the same up to its end
pub visit_rows-requires-clause-counts : goal.visit_rows-requires-clause-counts
visit_rows-requires-clause-counts c =
    let room = c.requires.room in
    let same : (i : ℕ) → i < c.args.from → get_or c.if-k-eq0.queue i 0 ≡ get_or c.args.queue.now i 0 =
    λ i h. elim c.if-k-eq0.branch [
      | then-k-eq0 y ↦ rw y.queue-is (y.visit_units-end.ensures.queued.kept i (omega (arith, h, c.requires.k_bound)))
      | else-k-eq0 y ↦ rw y.queue-is refl
    ] in
    counts_kept (omega (arith, c.requires.k_bound, counted_le ranked c.args.ranks.now)) c.if-k-eq0.auto.queue same c.requires.counts

pub returns-clause-ranks_after : goal.returns-clause-ranks_after
returns-clause-ranks_after c =
    let a = c.args in
    let p = c.requires in
    let e = c.visit_rows.ensures in
    let j = c.if-k-eq0 in
    let b : Begun a.k a.rows a.table.now a.counts.now a.ranks.now j.ranks a.queue.now a.to j.queue j.end =
    elim c.if-k-eq0.branch [
      | then-k-eq0 y ↦ let u = y.visit_units-end in
          begun_first y.if-k-eq0.true y.ranks-is y.queue-is y.end-is u.auto.ranks u.auto.queue u.ensures.looked u.ensures.queued
      | else-k-eq0 y ↦ begun_later y.if-k-eq0.false y.ranks-is y.queue-is y.end-is p.room.count
    ] in
    begun_whole b p.k_bound.1 p.frontier p.k_bound.0 p.fit (omega (arith, counted_le ranked a.ranks.now)) p.fact e.looked e.counts_2 e.by_index_2

pub returns-clause-counts_2 : goal.returns-clause-counts_2
returns-clause-counts_2 c =
    let e = c.visit_rows.ensures in
    let more : c.args.to ≤ c.if-k-eq0.end =
    elim c.if-k-eq0.branch [
      | then-k-eq0 y ↦ rw y.end-is y.visit_units-end.ensures.queued.more
      | else-k-eq0 y ↦ omega (arith, y.end-is)
    ] in
    counts_kept (omega (arith, c.if-k-eq0.auto.queue, counted_le ranked c.args.ranks.now)) c.visit_rows.auto.queue
    (λ i h. e.queued.kept i (omega (arith, h, more))) e.counts_2
