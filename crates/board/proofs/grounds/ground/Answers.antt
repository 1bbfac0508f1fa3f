-- `grounds::ground` meets its contract: its tests are the faults of `ground_faults`, in their order, and it marks what the literal reaches.
use Rattle.meaning.proofs.Kit.{◌∙◌, sym, arith, length, drop, rules, le-leb, lt-leb}
use Rattle.std.proofs.lemmas.Result.{err_from_is_err_and}
use Rattle.literals.specs.declared.refusal.Refusal.TheVariants.{TableTooShort, NothingToShow}
use Rattle.board.specs.Grounds.{ground_faults, ground_outcome}
use Rattle.board.proofs.TwoSets.{held_long}
use Rattle.board.proofs.Placing.{placed_at, placed_refused}
use Rattle.board.proofs.Ranked.{not_derived, is_derived}
use Rattle.board.proofs.Lending.{rank_at, places_few, ranks_room, ranks_long}
use Rattle.board.proofs.Traced.{marks_room, marks_long, can_trace, come_back}
use Rattle.board.proofs.Grounded.{ground_refused, ground_done}
use Rattle.board.proofs.grounds.ground.Goals as goal

pub returns-in_err-p : goal.returns-in_err-p
unfolding ground_outcome ground_faults
returns-in_err-p c =
    let a = c.args in
    let p = err_from_is_err_and c.from_residual.result c.from_residual.ensures.1 in
    let own = drop 3 (ground_faults a.table.now a.board a.furnace a.l (length a.marks.now)) in
    let all = ground_refused a.table.now a.board a.furnace a.marks.now a.l _ (placed_refused _ _ _ c.ranges.l c.place_on.ensures c.in_err-p.was own) in
    record { value = rw (p.1, p.2) all.0; marks_after = all.1 }

pub overflow_mul-places : goal.overflow_mul-places
overflow_mul-places c =
    let at = placed_at _ _ _ c.ranges.l c.place_on.ensures c.in_ok-p.was in
    omega (arith, at.good.sound.symbols)

pub returns-then-marks-places : goal.returns-then-marks-places
unfolding ground_outcome ground_faults
returns-then-marks-places c =
    let a = c.args in
    let at = placed_at _ _ _ c.ranges.l c.place_on.ensures c.in_ok-p.was in
    let all =
    ground_refused a.table.now a.board a.furnace a.marks.now a.l TableTooShort
    (rw (at.is_good_lem, at.is_furnace, at.in_range_lem, lt-leb _ _ c.if-marks-places.true)) in
    record { value = all.0; marks_after = all.1 }

pub slice_bounds-ranks-end : goal.slice_bounds-ranks-end
slice_bounds-ranks-end c =
    let at = placed_at _ _ _ c.ranges.l c.place_on.ensures c.in_ok-p.was in
    ranks_room _ _ at.good

pub slice_bounds-trace-end : goal.slice_bounds-trace-end
slice_bounds-trace-end c =
    let at = placed_at _ _ _ c.ranges.l c.place_on.ensures c.in_ok-p.was in
    sym (ranks_long _ _ at.good)

pub slice_bounds-reached-end : goal.slice_bounds-reached-end
slice_bounds-reached-end c =
    let at = placed_at _ _ _ c.ranges.l c.place_on.ensures c.in_ok-p.was in
    marks_room _ _ at.good

pub trace-requires : goal.trace-requires
trace-requires c =
    let at = placed_at _ _ _ c.ranges.l c.place_on.ensures c.in_ok-p.was in
    let all =
    can_trace _ _ at.good c.premises-held.result.now
    (held_long c.args.board c.args.furnace 400 at.is_furnace (search rules) (search rules) c.premises-held.ensures) in
    record { fit = all.0; ranks_in_bounds = all.1.0; marks_value = all.1.1 }

pub slice_bounds-trace-end-2 : goal.slice_bounds-trace-end-2
slice_bounds-trace-end-2 c =
    let at = placed_at _ _ _ c.ranges.l c.place_on.ensures c.in_ok-p.was in
    sym (marks_long _ _ at.good)

pub offset_bounds-ranks-p : goal.offset_bounds-ranks-p
offset_bounds-ranks-p c =
    let at = placed_at _ _ _ c.ranges.l c.place_on.ensures c.in_ok-p.was in
    omega (arith, at.low, at.good.sound.symbols)

pub bounds-ranks-p : goal.bounds-ranks-p
bounds-ranks-p c =
    let at = placed_at _ _ _ c.ranges.l c.place_on.ensures c.in_ok-p.was in
    omega (arith, at.low, at.good.sound.symbols)

pub returns-then-ranks-p : goal.returns-then-ranks-p
unfolding ground_outcome ground_faults
returns-then-ranks-p c =
    let a = c.args in
    let at = placed_at _ _ _ c.ranges.l c.place_on.ensures c.in_ok-p.was in
    let back = come_back _ _ at.good c.args.furnace c.in_ok-p.p c.premises-held.ensures c.trace.ensures.ranks_after
    c.trace.ensures.marks_after c.trace.auto.marks in
    let hides = not_derived _ _ _ (places_few _ _ at.good) c.in_ok-p.p (sym (rank_at _ _ _ back.ranks c.in_ok-p.p at.low) ∙ c.if-ranks-p.true) in
    let all =
    ground_refused a.table.now a.board a.furnace a.marks.now a.l NothingToShow
    (rw (at.is_good_lem, at.is_furnace, at.in_range_lem, le-leb _ _ c.if-marks-places.false, ← at.place, hides)) in
    record { value = all.0; marks_after = all.1 }

pub slice_bounds-reached-end-2 : goal.slice_bounds-reached-end-2
slice_bounds-reached-end-2 c =
    let at = placed_at _ _ _ c.ranges.l c.place_on.ensures c.in_ok-p.was in
    let back = come_back _ _ at.good c.args.furnace c.in_ok-p.p c.premises-held.ensures c.trace.ensures.ranks_after
    c.trace.ensures.marks_after c.trace.auto.marks in
    back.marks.room

pub slice_bounds-write_marks-end : goal.slice_bounds-write_marks-end
slice_bounds-write_marks-end c =
    let at = placed_at _ _ _ c.ranges.l c.place_on.ensures c.in_ok-p.was in
    let back = come_back _ _ at.good c.args.furnace c.in_ok-p.p c.premises-held.ensures c.trace.ensures.ranks_after
    c.trace.ensures.marks_after c.trace.auto.marks in
    sym back.marks.long

pub write_marks-requires : goal.write_marks-requires
write_marks-requires c =
    let at = placed_at _ _ _ c.ranges.l c.place_on.ensures c.in_ok-p.was in
    let back = come_back _ _ at.good c.args.furnace c.in_ok-p.p c.premises-held.ensures c.trace.ensures.ranks_after
    c.trace.ensures.marks_after c.trace.auto.marks in
    omega (arith, back.marks.long, c.if-marks-places.false)

pub returns : goal.returns
unfolding ground_outcome ground_faults
returns c =
    let a = c.args in
    let at = placed_at _ _ _ c.ranges.l c.place_on.ensures c.in_ok-p.was in
    let back = come_back _ _ at.good c.args.furnace c.in_ok-p.p c.premises-held.ensures c.trace.ensures.ranks_after
    c.trace.ensures.marks_after c.trace.auto.marks in
    let shows = is_derived _ _ _ (places_few _ _ at.good) c.in_ok-p.p (λ e. c.if-ranks-p.false (rank_at _ _ _ back.ranks c.in_ok-p.p at.low ∙ e)) in
    let all =
    ground_done a.table.now a.board a.furnace a.marks.now a.l c.in_ok-p.p at.place at.low
    (rw (at.is_good_lem, at.is_furnace, at.in_range_lem, le-leb _ _ c.if-marks-places.false, ← at.place, shows)) back.marks.is
    c.write_marks.ensures in
    record { value = all.0; marks_after = all.1 }
