use Rattle.meaning.proofs.Kit.{◌≡◌, ◌∙◌, ap, refl, inl, ◌<◌, arith, length, get_or}
use Rattle.meaning.specs.Literals.{opp}
use Rattle.meaning.proofs.Literals.{opp_in}
use Rattle.literals.proofs.Scanning.{few_places}
use Rattle.findings.proofs.Queueing.{queued_none, queued_more, room_after, counted_le}
use Rattle.rounds.specs.Queue.{ranked}
use Rattle.rounds.proofs.Looking.{looked_none, looked_more}
use Rattle.rounds.proofs.Counting.{counts_next, touched_split, touched_next}
use Rattle.rounds.proofs.visits.visit_rows.Goals as goal

pub loop-at-init : goal.loop-at-init
loop-at-init c =
    record {
      looked = looked_none (λ r h d. omega (arith, d.0.1, d.0.2));
      queued = queued_none c.requires.room.count;
      counted = c.requires.counts;
      kept = λ r. inl refl;
    }

-- the place in hand stands in the queue
pub offset_bounds-queue-at : goal.offset_bounds-queue-at
offset_bounds-queue-at c =
    let room = c.requires.room in
    omega (arith, c.loop-at-test.true, c.requires.k_lt_none, room.count, room.few, counted_le ranked c.args.ranks.now)

pub bounds-queue-at : goal.bounds-queue-at
bounds-queue-at c =
    let room = c.requires.room in
    omega (arith, c.loop-at-test.true, c.requires.k_lt_none, room.count, room.long, counted_le ranked c.args.ranks.now, c.loop-at.auto.queue)

-- as it did first, so that it is one of the places
pub opposite_place-p-requires : goal.opposite_place-p-requires
opposite_place-p-requires c =
    let at = c.loop-at.at in
    let first = c.loop-at.invariant.queued.kept at (omega (arith, c.loop-at-test.true, c.requires.k_lt_none)) in
    omega (arith, first, c.requires.by_index at c.loop-at-test.true, few_places c.requires.fit)

pub visit-next-requires-clause-fit : goal.visit-next-requires-clause-fit
visit-next-requires-clause-fit c = rw c.loop-at.auto.ranks c.requires.fit

pub visit-next-requires-clause-index : goal.visit-next-requires-clause-index
visit-next-requires-clause-index c = rw c.loop-at.auto.ranks c.requires.index

pub visit-next-requires-clause-p_in_bounds : goal.visit-next-requires-clause-p_in_bounds
visit-next-requires-clause-p_in_bounds c =
    let at = c.loop-at.at in
    let k = c.requires.k_lt_none in
    let first = c.loop-at.invariant.queued.kept at (omega (arith, c.loop-at-test.true, k)) in
    let low : get_or c.loop-at.queue at 0 < length c.args.ranks.now = omega (arith, first, c.requires.by_index at c.loop-at-test.true) in
    let other = opp_in (get_or c.loop-at.queue at 0) (length c.args.ranks.now) (omega (arith, c.requires.fit.1)) low in
    (omega (arith, other, c.opposite_place-p.ensures, c.loop-at.auto.ranks), k.0, c.loop-at.auto.counts ∙ k.3)

pub visit-next-requires-clause-room : goal.visit-next-requires-clause-room
visit-next-requires-clause-room c =
    let kept = c.loop-at.auto in room_after c.requires.room c.loop-at.invariant.queued kept.ranks kept.queue

pub loop-at-preserved : goal.loop-at-preserved
loop-at-preserved c =
    let at = c.loop-at.at in
    let i = c.loop-at.invariant in
    let queue = c.args.queue.now in
    let k = c.requires.k_lt_none in
    let room = c.requires.room in
    let first = i.queued.kept at (omega (arith, c.loop-at-test.true, k)) in
    let is : c.opposite_place-p.result ≡ opp (get_or queue at 0) = c.opposite_place-p.ensures ∙ ap opp first in
    let in_queue : at < length queue = omega (arith, c.loop-at-test.true, k, room.count, room.long, counted_le ranked c.args.ranks.now) in
    let e = c.visit-next.ensures in
    record {
      looked = looked_more k.0 i.looked e.looked (λ r h d. touched_split queue at is e.struck r d);
      queued = queued_more c.loop-at.auto.ranks i.queued e.queued;
      counted = counts_next queue at is e.struck c.requires.fit in_queue i.counted;
      kept = touched_next queue at is e.struck c.args.counts.now c.loop-at.auto.at i.kept;
    }
