-- `asking::answer` meets its contract: its tests are the faults of `ask_faults`, in their order, and the ranks tell how the literal stands, by its
-- symbol or of the whole board.
use Rattle.meaning.proofs.Kit.{◌≡◌, ◌∙◌, sym, ap, refl, true, false, Bool, cond, ◌*◌, arith, drop, to_z-of_z, rules}
use Rattle.std.specs.Prelude.{Result, Ok}
use Rattle.std.proofs.lemmas.Result.{err_from_is_err_and}
use Rattle.meaning.specs.Tests.{none}
use Rattle.literals.specs.Literal.{place_of}
use Rattle.literals.specs.declared.refusal.Refusal.{Refusal}
use Rattle.literals.proofs.Arguments.{range_facts}
use Rattle.literals.proofs.Signed.{back_abs}
use Rattle.findings.specs.Ranks.{below}
use Rattle.findings.proofs.Final.{below_derived}
use Rattle.board.specs.Furnaces.{held_by}
use Rattle.board.specs.Ranking.{rows_on}
use Rattle.board.specs.Asking.{ask_faults, standing, asked, standing_whole, asked_whole}
use Rattle.board.specs.declared.asking.Standing.{Standing}
use Rattle.board.proofs.TwoSets.{held_long}
use Rattle.board.proofs.Placing.{placed_at, placed_refused}
use Rattle.board.proofs.Lending.{ranks_room, ranks_long, can_propagate, ranks_back}
use Rattle.board.proofs.asking.answer.Goals as goal

-- what is so of both calls
either : {x a b : Result Standing Refusal} (whole : Bool) → x ≡ a → x ≡ b → x ≡ cond whole a b
either true e f = e
either false e f = f

either_ok : (whole : Bool) (a b : Standing) → ◌≡◌ {A = Result Standing Refusal} (Ok (cond whole a b)) (cond whole (Ok a) (Ok b))
either_ok true a b = refl
either_ok false a b = refl

pub returns-in_err-place_on : goal.returns-in_err-place_on
unfolding asked asked_whole ask_faults
returns-in_err-place_on c =
    let a = c.args in
    let p = err_from_is_err_and c.from_residual.result c.from_residual.ensures.1 in
    let own = drop 3 (ask_faults a.table.now a.board a.furnace a.l) in
    let refused = placed_refused _ _ _ c.ranges.l c.place_on.ensures c.in_err-place_on.was own in
    rw (p.1, p.2) (either a.whole (rw refused) (rw refused))

pub overflow_mul-places : goal.overflow_mul-places
overflow_mul-places c =
    let at = placed_at _ _ _ c.ranges.l c.place_on.ensures c.in_ok-place_on.was in
    omega (arith, at.good.sound.symbols)

pub slice_bounds-ranks-end : goal.slice_bounds-ranks-end
slice_bounds-ranks-end c =
    let at = placed_at _ _ _ c.ranges.l c.place_on.ensures c.in_ok-place_on.was in
    ranks_room _ _ at.good

pub slice_bounds-propagate-end : goal.slice_bounds-propagate-end
slice_bounds-propagate-end c =
    let at = placed_at _ _ _ c.ranges.l c.place_on.ensures c.in_ok-place_on.was in
    sym (ranks_long _ _ at.good)

pub propagate-requires : goal.propagate-requires
propagate-requires c =
    let at = placed_at _ _ _ c.ranges.l c.place_on.ensures c.in_ok-place_on.was in
    let long = held_long c.args.board c.args.furnace 400 at.is_furnace (search rules) (search rules) c.premises-held.ensures in
    let can = can_propagate _ _ at.good c.premises-held.result.now long in
    record { fit = can.0; ranks_in_bounds = (can.1, omega (arith, ranks_long _ _ at.good)) }

pub slice_bounds-ranks-end-2 : goal.slice_bounds-ranks-end-2
slice_bounds-ranks-end-2 c =
    let at = placed_at _ _ _ c.ranges.l c.place_on.ensures c.in_ok-place_on.was in
    (ranks_back _ _ at.good c.args.furnace c.premises-held.ensures c.propagate.ensures.ranks_after).room

pub slice_bounds-standing_by-end : goal.slice_bounds-standing_by-end
slice_bounds-standing_by-end c =
    let at = placed_at _ _ _ c.ranges.l c.place_on.ensures c.in_ok-place_on.was in
    sym (ranks_back _ _ at.good c.args.furnace c.premises-held.ensures c.propagate.ensures.ranks_after).long

pub standing_by-requires : goal.standing_by-requires
standing_by-requires c =
    let at = placed_at _ _ _ c.ranges.l c.place_on.ensures c.in_ok-place_on.was in
    let size = (ranks_back _ _ at.good c.args.furnace c.premises-held.ensures c.propagate.ensures.ranks_after).long in
    let range = range_facts c.args.board.symbols c.args.l at.in_range_lem in
    let back = back_abs c.ranges.l in
    (omega (arith, back, range.0), omega (arith, back, size, range.1), omega (arith, size, at.good.sound.symbols))

pub returns : goal.returns
unfolding asked asked_whole ask_faults
returns c =
    let at = placed_at _ _ _ c.ranges.l c.place_on.ensures c.in_ok-place_on.was in
    let b = c.args.board in
    let stands = rw (to_z-of_z c.ranges.l) at c.standing_by.ensures in
    rw (at.is_good_lem, at.is_furnace, at.in_range_lem)
    (ap Ok (stands
    ∙ ap (λ known. cond c.args.whole (standing_whole known (place_of c.args.l)) (standing known (place_of c.args.l)))
    (ap (below none) (ranks_back _ _ at.good c.args.furnace c.premises-held.ensures c.propagate.ensures.ranks_after).is
    ∙ below_derived (2 * b.symbols) (rows_on c.args.table.now b) (held_by b c.args.furnace) (omega (arith, at.good.sound.symbols))))
    ∙ either_ok c.args.whole _ _)
