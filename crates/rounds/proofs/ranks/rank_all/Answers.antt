use Rattle.meaning.proofs.Kit.{◌≡◌, ◌∙◌, sym, ap, refl, subst, Bool, List, ◌≤◌, ℕ, ◌+◌, arith, ℤ, length}
use Rattle.literals.specs.Row.{rows_in, Fit}
use Rattle.literals.proofs.Scanning.{few_places}
use Rattle.findings.specs.Queue.{Room, AllQueued}
use Rattle.findings.proofs.Queueing.{counted_le, room_after, queued_same}
use Rattle.rounds.specs.Ranks.{start_ranks, ranks_after, ranks_by}
use Rattle.rounds.specs.Queue.{ranked}
use Rattle.rounds.proofs.RankTables.{start_ranks_is, Turn, round_ranks, round_last, round_low, round_new, round_old, round_settled}
use Rattle.rounds.proofs.Counting.{counts_start, counts_long}
use Rattle.rounds.proofs.Frontiers.{frontier_kept, frontier_next, frontier_all, premises_all}
use Rattle.rounds.proofs.ranks.rank_all.Goals as goal

-- one round more
turn : {places used k to : ℕ} {table : List ℤ} {held : List Bool} {l m queue : List ℕ} → Fit places used table → length l ≡ places
    → l ≡ ranks_by places (rows_in used table) held k → Room ranked l queue to → k ≤ to → m ≡ ranks_after (k + 1) (rows_in used table) l
    → Turn places (rows_in used table) held k l m
turn {l} fit long is room early step =
    record { small = omega (arith, few_places fit, long, room.count, counted_le ranked l, early); before = is; step = step }

pub loop-to-init : goal.loop-to-init
loop-to-init c =
    let a = c.args in
    let ranks = c.start_ranks.new.ranks in
    let kept = c.start_ranks.auto.ranks in
    let is : ranks ≡ start_ranks (length ranks) a.held.now = c.start_ranks.ensures ∙ ap (λ n. start_ranks n a.held.now) (sym kept) in
    let first = premises_all is c.queue_premises-to.ensures in
    record {
      up = omega arith;
      early = omega arith;
      is = c.start_ranks.ensures ∙ start_ranks_is (length a.ranks.now) (rows_in a.rows a.table.now) a.held.now;
      room = record {
        count = first.0;
        long = omega (arith, kept, c.queue_premises-to.auto.queue, c.requires.ranks_in_bounds);
        few = omega (arith, kept, few_places c.requires.fit);
      };
      front = first.1;
      counted = counts_start a.rows a.table.now c.requires.counts_value;
      first = λ z. c.requires.counts_value;
    }

pub round-end-requires-clause-k_bound : goal.round-end-requires-clause-k_bound
round-end-requires-clause-k_bound c =
    let i = c.loop-to.invariant in (
      omega (arith, counted_le ranked c.loop-to.ranks, few_places c.requires.fit),
      i.up,
      c.loop-to.auto.counts ∙ counts_long c.args.rows c.args.table.now c.requires.counts_value,
    )

pub round-end-requires-clause-fact : goal.round-end-requires-clause-fact
round-end-requires-clause-fact c =
    let i = c.loop-to.invariant in
    let long = c.loop-to.auto.ranks ∙ c.start_ranks.auto.ranks in
    round_settled _ _ _ (turn c.requires.fit long i.is i.room i.early refl)

pub overflow_add-k : goal.overflow_add-k
overflow_add-k c = omega (arith, counted_le ranked c.loop-to.ranks, few_places c.requires.fit)

-- a round that adds something makes the queue longer, up to the number of places
pub loop-to-smaller : goal.loop-to-smaller
loop-to-smaller c = omega (arith, counted_le ranked c.round-end.new.ranks, c.if-end-to.false)

pub loop-to-preserved : goal.loop-to-preserved
loop-to-preserved c =
    let i = c.loop-to.invariant in
    let e = c.round-end.ensures in
    let kept = c.round-end.auto in
    let long = c.loop-to.auto.ranks ∙ c.start_ranks.auto.ranks in
    let t = turn c.requires.fit long i.is i.room i.early e.ranks_after in
    record {
      up = e.queued.more;
      early = omega (arith, c.if-end-to.false);
      is = round_ranks _ _ _ t;
      room = room_after i.room e.queued kept.ranks kept.queue;
      front = frontier_next i.up kept.ranks i.front e.queued (λ p b is. round_new _ _ _ t p (omega (arith, b, long)) is) (round_old _ _ _ t);
      counted = e.counts_2;
      first = λ z. absurd (omega (arith, z));
    }

-- the last round puts nothing into the queue, and leaves the ranks
pub returns-clause-ranks_after : goal.returns-clause-ranks_after
returns-clause-ranks_after c =
    let i = c.loop-to.invariant in
    let e = c.round-end.ensures in
    let long = c.loop-to.auto.ranks ∙ c.start_ranks.auto.ranks in
    let still = queued_same c.round-end.auto.ranks (rw c.if-end-to.true at e.queued) in
    round_last _ _ _ (turn c.requires.fit long i.is i.room i.early e.ranks_after) (omega (arith, counted_le ranked c.loop-to.ranks))
    (omega (arith, few_places c.requires.fit)) still

pub returns-clause-all_queued : goal.returns-clause-all_queued
returns-clause-all_queued c =
    let i = c.loop-to.invariant in
    let e = c.round-end.ensures in
    let long = c.loop-to.auto.ranks ∙ c.start_ranks.auto.ranks in
    let t = turn c.requires.fit long i.is i.room i.early e.ranks_after in
    let still = queued_same c.round-end.auto.ranks (rw c.if-end-to.true at e.queued) in
    let all = frontier_all i.up (omega (arith, counted_le ranked c.loop-to.ranks)) (frontier_kept i.up e.queued.kept i.front)
    (λ p b n. round_low _ _ _ t p (omega (arith, b, long)) n) in
    subst (λ ranks. AllQueued ranks c.round-end.new.queue c.loop-to.to) (sym still) all
