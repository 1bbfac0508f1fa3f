use Rattle.meaning.proofs.Kit.{◌≡◌, ap, false, not, List, ℕ, arith, get_or, ne_eqb, eq-eqb}
use Rattle.meaning.specs.Tests.{none}
use Rattle.findings.proofs.Queueing.{queued_one, queued_free}
use Rattle.rounds.specs.Queue.{ranked}
use Rattle.rounds.proofs.Marking.{mark_one, mark_ranked}
use Rattle.rounds.proofs.marks.mark_place.Goals as goal

-- the place has no rank
bare : (ranks : List ℕ) (p : ℕ) → get_or ranks p 0 ≡ none → ranked (get_or ranks p 0) ≡ false
bare ranks p e = ap not (eq-eqb (get_or ranks p 0) none e)

pub returns-then-ranks-p-clause-ranks_after : goal.returns-then-ranks-p-clause-ranks_after
returns-then-ranks-p-clause-ranks_after c = mark_ranked _ _ _ c.if-ranks-p.true

-- and so there is room in the queue
pub offset_bounds-queue-end : goal.offset_bounds-queue-end
offset_bounds-queue-end c =
    omega (arith, queued_free 0 c.requires.room c.args.p c.requires.p_in_bounds (bare c.args.ranks.now c.args.p c.if-ranks-p.false))

pub bounds-queue-end : goal.bounds-queue-end
bounds-queue-end c = queued_free 0 c.requires.room c.args.p c.requires.p_in_bounds (bare c.args.ranks.now c.args.p c.if-ranks-p.false)

pub overflow_add-result : goal.overflow_add-result
overflow_add-result c =
    omega (arith, queued_free 0 c.requires.room c.args.p c.requires.p_in_bounds (bare c.args.ranks.now c.args.p c.if-ranks-p.false))

pub returns-clause-ranks_after : goal.returns-clause-ranks_after
returns-clause-ranks_after c = mark_one _ _ _ c.requires.p_in_bounds c.if-ranks-p.false

pub returns-clause-queued : goal.returns-clause-queued
returns-clause-queued c =
    let is-rank = ap not (ne_eqb c.args.k none (λ e. omega (arith, e, c.requires.k_lt_none))) in
    queued_one c.requires.room c.args.p c.args.k c.requires.p_in_bounds (bare c.args.ranks.now c.args.p c.if-ranks-p.false) is-rank
