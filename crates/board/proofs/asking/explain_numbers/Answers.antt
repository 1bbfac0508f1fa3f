-- Its tests are the faults of `explain_faults`, in their order.
use Rattle.meaning.proofs.Kit.{◌≡◌, ◌∙◌, sym, ap, ap₂, inl, inr, false, not, ◌||◌, ℕ, ◌<◌, ◌*◌, ℤ, List, arith, drop, rules}
use Rattle.meaning.specs.Tests.{none}
use Rattle.meaning.specs.Literals.{has}
use Rattle.meaning.specs.Rounds.{rank_of}
use Rattle.literals.specs.Row.{rule_at}
use Rattle.literals.proofs.RuleNumbers.{rule_facts}
use Rattle.board.specs.Furnaces.{held_by}
use Rattle.board.specs.Ranking.{rows_on, derived_on, support_on}
use Rattle.board.specs.declared.Board.{Board}
use Rattle.board.specs.Asking.{explain_faults, explain_numbers}
use Rattle.std.specs.Prelude.{Ok}
use Rattle.board.proofs.TwoSets.{held_long}
use Rattle.board.proofs.Placing.{PlacedAt, placed_at, placed_refused}
use Rattle.board.proofs.Ranked.{hidden, shown}
use Rattle.board.proofs.Explaining.{support_used}
use Rattle.board.proofs.Lending.{rank_at, places_few, ranks_room, ranks_long, can_propagate, ranks_back, support_back}
use Rattle.board.proofs.asking.explain_numbers.Goals as goal

pub overflow_mul-places : goal.overflow_mul-places
overflow_mul-places c = let at = placed_at _ _ _ c.ranges.l c.place_on.ensures c.in-Ok.is in omega (arith, at.good.sound.symbols)

pub slice_bounds-ranks-end : goal.slice_bounds-ranks-end
slice_bounds-ranks-end c = let at = placed_at _ _ _ c.ranges.l c.place_on.ensures c.in-Ok.is in ranks_room _ _ at.good

pub slice_bounds-propagate-end : goal.slice_bounds-propagate-end
slice_bounds-propagate-end c = let at = placed_at _ _ _ c.ranges.l c.place_on.ensures c.in-Ok.is in sym (ranks_long _ _ at.good)

pub propagate-requires : goal.propagate-requires
propagate-requires c =
    let at = placed_at _ _ _ c.ranges.l c.place_on.ensures c.in-Ok.is in
    let long = held_long c.args.board c.args.furnace 400 at.is_furnace (search rules) (search rules) c.premises-held.ensures in
    let can = can_propagate _ _ at.good c.premises-held.result.now long in
    record { fit = can.0; ranks_in_bounds = (can.1, omega (arith, ranks_long _ _ at.good, at.low)) }

pub offset_bounds-ranks-p : goal.offset_bounds-ranks-p
offset_bounds-ranks-p c =
    let at = placed_at _ _ _ c.ranges.l c.place_on.ensures c.in-Ok.is in omega (arith, at.low, at.good.sound.symbols)

pub bounds-ranks-p : goal.bounds-ranks-p
bounds-ranks-p c = let at = placed_at _ _ _ c.ranges.l c.place_on.ensures c.in-Ok.is in omega (arith, at.low, at.good.sound.symbols)

pub returns-then-rank-eq0 : goal.returns-then-rank-eq0
unfolding explain_numbers explain_faults
returns-then-rank-eq0 c =
    let at = placed_at _ _ _ c.ranges.l c.place_on.ensures c.in-Ok.is in
    let rank = rank_at _ _ _ (ranks_back _ _ at.good c.args.furnace c.premises-held.ensures c.propagate.ensures.ranks_after) c.in-Ok.p at.low in
    let hides = hidden _ _ _ (places_few _ _ at.good) c.in-Ok.p at.low (inl (sym rank ∙ c.if-rank-eq0.true)) in
    rw (at.is_good_lem, at.is_furnace, at.in_range_lem, ← at.place, hides) c.unexplained-then-rank-eq0.ensures

pub returns-then-rank : goal.returns-then-rank
unfolding explain_numbers explain_faults
returns-then-rank c =
    let at = placed_at _ _ _ c.ranges.l c.place_on.ensures c.in-Ok.is in
    let rank = rank_at _ _ _ (ranks_back _ _ at.good c.args.furnace c.premises-held.ensures c.propagate.ensures.ranks_after) c.in-Ok.p at.low in
    let hides = hidden _ _ _ (places_few _ _ at.good) c.in-Ok.p at.low (inr (sym rank ∙ c.if-rank.true)) in
    rw (at.is_good_lem, at.is_furnace, at.in_range_lem, ← at.place, hides) c.unexplained-then-rank.ensures

pub returns-in-Err : goal.returns-in-Err
unfolding explain_numbers explain_faults
returns-in-Err c =
    let own = drop 3 (explain_faults c.args.table.now c.args.board c.args.furnace c.args.l) in
    rw (placed_refused _ _ _ c.ranges.l c.place_on.ensures c.in-Err.is own) c.unexplained.ensures

-- ---- where a rank from 1 on was found: the literal is derived and not held, so the call is done, and its supporting row is in use

module _ (table : List ℤ) (b : Board) (furnace : ℕ) (l : ℤ) (p : ℕ) (at : PlacedAt table b furnace l p) {rank : ℕ}
    (is : rank ≡ rank_of (2 * b.symbols) (rows_on table b) (held_by b furnace) p) (some : rank ≡ 0 → ⊥) (ranked : rank ≡ none → ⊥) where
  shows : (not (has (derived_on table b furnace) p) || has (held_by b furnace) p) ≡ false
  shows =
      shown (2 * b.symbols) (rows_on table b) (held_by b furnace) (places_few table b at.good) p at.low (λ e. some (is ∙ e)) (λ e. ranked (is ∙ e))

  used : {row : ℕ} → row ≡ support_on table b furnace p → row < b.rows
  unfolding explain_numbers explain_faults
  used of =
      let done : (explain_numbers table b furnace l).outcome ≡ Ok tt = rw (at.is_good_lem, at.is_furnace, at.in_range_lem, ← at.place, shows) in
      omega (arith, of ∙ ap (support_on table b furnace) at.place, support_used table b furnace l done)

pub rule_at-requires : goal.rule_at-requires
rule_at-requires c =
    let a = c.args in
    let at = placed_at _ _ _ c.ranges.l c.place_on.ensures c.in-Ok.is in
    let rank = rank_at _ _ _ (ranks_back _ _ at.good a.furnace c.premises-held.ensures c.propagate.ensures.ranks_after) c.in-Ok.p at.low in
    let row = support_back _ _ at.good a.furnace c.premises-held.ensures c.in-Ok.p c.propagate.ensures.supports_after in
    omega (arith, used a.table.now a.board a.furnace a.l c.in-Ok.p at rank c.if-rank-eq0.false c.if-rank.false row, at.good.sound.room)

pub overflow_cast-result : goal.overflow_cast-result
overflow_cast-result c =
    let a = c.args in
    let at = placed_at _ _ _ c.ranges.l c.place_on.ensures c.in-Ok.is in
    let rank = rank_at _ _ _ (ranks_back _ _ at.good a.furnace c.premises-held.ensures c.propagate.ensures.ranks_after) c.in-Ok.p at.low in
    let row = support_back _ _ at.good a.furnace c.premises-held.ensures c.in-Ok.p c.propagate.ensures.supports_after in
    let below = used a.table.now a.board a.furnace a.l c.in-Ok.p at rank c.if-rank-eq0.false c.if-rank.false row in
    omega (arith, c.rule_at.ensures, (rule_facts a.board.rules a.table.now _ (at.good.numbers _ below)).1, at.good.few)

pub returns-else-rank : goal.returns-else-rank
unfolding explain_numbers explain_faults
returns-else-rank c =
    let a = c.args in
    let at = placed_at _ _ _ c.ranges.l c.place_on.ensures c.in-Ok.is in
    let rank = rank_at _ _ _ (ranks_back _ _ at.good a.furnace c.premises-held.ensures c.propagate.ensures.ranks_after) c.in-Ok.p at.low in
    let row = support_back _ _ at.good a.furnace c.premises-held.ensures c.in-Ok.p c.propagate.ensures.supports_after in
    let explains = shows a.table.now a.board a.furnace a.l c.in-Ok.p at rank c.if-rank-eq0.false c.if-rank.false in
    rw (at.is_good_lem, at.is_furnace, at.in_range_lem, ← at.place, explains, c.rule_at.ensures)
    (ap₂ (λ (rank row : ℕ). record { outcome = Ok tt; rank = rank; row = row; rule = rule_at a.table.now row }) rank row)
