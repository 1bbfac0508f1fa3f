-- Its tests are the faults of `blame_faults`, in their order, and it marks what the symbol's two literals reach.
use Rattle.meaning.proofs.Kit.{◌≡◌, ◌∙◌, sym, ap, refl, not, ◌*◌, arith}
use Rattle.meaning.proofs.Kit.{not-false, not-true, le-leb, lt-leb, eqb-true, eqb-false, rules}
use Rattle.meaning.specs.Tests.{none, first}
use Rattle.meaning.specs.Rounds.{ranks_of}
use Rattle.literals.specs.declared.refusal.Refusal.TheVariants.{BadBoard, BadFurnace, TableTooShort, NothingToShow}
use Rattle.findings.specs.Ranks.{clash_in, found}
use Rattle.findings.proofs.Clashes.{clash_final, conflict_none, conflict_some}
use Rattle.findings.proofs.Searching.{found_is_some}
use Rattle.board.specs.Furnaces.{held_by}
use Rattle.board.specs.Ranking.{rows_on}
use Rattle.board.specs.Grounds.{blame_faults, blame_outcome}
use Rattle.board.proofs.TwoSets.{held_long}
use Rattle.board.proofs.Goodness.{good_is}
use Rattle.board.proofs.Lending.{places_few, ranks_room, ranks_long}
use Rattle.board.proofs.Traced.{marks_room, marks_long, can_trace, come_back}
use Rattle.board.proofs.Grounded.{blame_refused, blame_done}
use Rattle.board.proofs.grounds.blame.Goals as goal

pub returns-then-not-good : goal.returns-then-not-good
unfolding blame_outcome blame_faults
returns-then-not-good c =
    let r = blame_refused c.args.table.now c.args.board c.args.furnace c.args.marks.now BadBoard (rw (sym c.good.ensures ∙ c.if-not-good.true)) in
    record { value = r.0; marks_after = r.1 }

pub returns-then-not-is_furnace : goal.returns-then-not-is_furnace
unfolding blame_outcome blame_faults
returns-then-not-is_furnace c =
    let r = blame_refused c.args.table.now c.args.board c.args.furnace c.args.marks.now BadFurnace
    (rw (sym c.good.ensures ∙ c.if-not-good.false, sym c.is_furnace.ensures ∙ c.if-not-is_furnace.true)) in
    record { value = r.0; marks_after = r.1 }

pub overflow_mul-places : goal.overflow_mul-places
overflow_mul-places c = omega (arith, (good_is _ _ (sym c.good.ensures ∙ c.if-not-good.false)).sound.symbols)

pub returns-then-marks-places : goal.returns-then-marks-places
unfolding blame_outcome blame_faults
returns-then-marks-places c =
    let r = blame_refused c.args.table.now c.args.board c.args.furnace c.args.marks.now TableTooShort
    (rw (sym c.good.ensures ∙ c.if-not-good.false, sym c.is_furnace.ensures ∙ c.if-not-is_furnace.false, lt-leb _ _ c.if-marks-places.true)) in
    record { value = r.0; marks_after = r.1 }

-- the ranks and the marks as they are lent
pub slice_bounds-ranks-end : goal.slice_bounds-ranks-end
slice_bounds-ranks-end c = ranks_room _ _ (good_is _ _ (sym c.good.ensures ∙ c.if-not-good.false))

pub slice_bounds-trace-end : goal.slice_bounds-trace-end
slice_bounds-trace-end c = sym (ranks_long _ _ (good_is _ _ (sym c.good.ensures ∙ c.if-not-good.false)))

pub slice_bounds-reached-end : goal.slice_bounds-reached-end
slice_bounds-reached-end c = marks_room _ _ (good_is _ _ (sym c.good.ensures ∙ c.if-not-good.false))

pub slice_bounds-trace-end-2 : goal.slice_bounds-trace-end-2
slice_bounds-trace-end-2 c = sym (marks_long _ _ (good_is _ _ (sym c.good.ensures ∙ c.if-not-good.false)))

pub trace-requires : goal.trace-requires
trace-requires c =
    let long = held_long c.args.board c.args.furnace 400 (sym c.is_furnace.ensures ∙ c.if-not-is_furnace.false) (search rules) (search rules)
    c.premises-held.ensures in
    let can = can_trace _ _ (good_is _ _ (sym c.good.ensures ∙ c.if-not-good.false)) c.premises-held.result.now long in
    record { fit = can.0; ranks_in_bounds = can.1.0; marks_value = can.1.1 }

-- and as they come back
pub slice_bounds-ranks-end-2 : goal.slice_bounds-ranks-end-2
slice_bounds-ranks-end-2 c =
    let g = good_is _ _ (sym c.good.ensures ∙ c.if-not-good.false) in
    let back = come_back c.args.table.now c.args.board g c.args.furnace none c.premises-held.ensures c.trace.ensures.ranks_after
    c.trace.ensures.marks_after c.trace.auto.marks in
    back.ranks.room

pub slice_bounds-first_clash-end : goal.slice_bounds-first_clash-end
slice_bounds-first_clash-end c =
    let g = good_is _ _ (sym c.good.ensures ∙ c.if-not-good.false) in
    let back = come_back c.args.table.now c.args.board g c.args.furnace none c.premises-held.ensures c.trace.ensures.ranks_after
    c.trace.ensures.marks_after c.trace.auto.marks in
    sym back.ranks.long

pub slice_bounds-reached-end-2 : goal.slice_bounds-reached-end-2
slice_bounds-reached-end-2 c =
    let g = good_is _ _ (sym c.good.ensures ∙ c.if-not-good.false) in
    let back = come_back c.args.table.now c.args.board g c.args.furnace none c.premises-held.ensures c.trace.ensures.ranks_after
    c.trace.ensures.marks_after c.trace.auto.marks in
    back.marks.room

pub slice_bounds-write_marks-end : goal.slice_bounds-write_marks-end
slice_bounds-write_marks-end c =
    let g = good_is _ _ (sym c.good.ensures ∙ c.if-not-good.false) in
    let back = come_back c.args.table.now c.args.board g c.args.furnace none c.premises-held.ensures c.trace.ensures.ranks_after
    c.trace.ensures.marks_after c.trace.auto.marks in
    sym back.marks.long

pub returns-then-is_none : goal.returns-then-is_none
unfolding blame_outcome blame_faults
returns-then-is_none c =
    let g = good_is _ _ (sym c.good.ensures ∙ c.if-not-good.false) in
    let back = come_back c.args.table.now c.args.board g c.args.furnace none c.premises-held.ensures c.trace.ensures.ranks_after
    c.trace.ensures.marks_after c.trace.auto.marks in
    let b = c.args.board in
    let rows = rows_on c.args.table.now b in
    let held = held_by b c.args.furnace in
    let small = places_few _ _ g in
    let clash = c.first_clash.ensures ∙ ap found (clash_final b.symbols rows held small back.ranks.is refl) in
    let n = first (clash_in (ranks_of (2 * b.symbols) rows held)) b.symbols in
    let nothing : n ≡ none = eqb-true n none (not-false _ (sym (found_is_some n clash) ∙ c.is_none.ensures ∙ ap not c.if-is_none.true)) in
    let r = blame_refused c.args.table.now b c.args.furnace c.args.marks.now NothingToShow
    (rw (
      sym c.good.ensures ∙ c.if-not-good.false,
      sym c.is_furnace.ensures ∙ c.if-not-is_furnace.false,
      le-leb _ _ c.if-marks-places.false,
      conflict_none b.symbols rows held small nothing,
    )) in
    record { value = r.0; marks_after = r.1 }

pub returns : goal.returns
unfolding blame_outcome blame_faults
returns c =
    let g = good_is _ _ (sym c.good.ensures ∙ c.if-not-good.false) in
    let back = come_back c.args.table.now c.args.board g c.args.furnace none c.premises-held.ensures c.trace.ensures.ranks_after
    c.trace.ensures.marks_after c.trace.auto.marks in
    let b = c.args.board in
    let rows = rows_on c.args.table.now b in
    let held = held_by b c.args.furnace in
    let small = places_few _ _ g in
    let clash = c.first_clash.ensures ∙ ap found (clash_final b.symbols rows held small back.ranks.is refl) in
    let n = first (clash_in (ranks_of (2 * b.symbols) rows held)) b.symbols in
    let some : n ≡ none → ⊥ = eqb-false n none (not-true _ (sym (found_is_some n clash) ∙ c.is_none.ensures ∙ ap not c.if-is_none.false)) in
    let r = blame_done c.args.table.now b c.args.furnace c.args.marks.now none small (omega (arith, small)) some
    (rw (
      sym c.good.ensures ∙ c.if-not-good.false,
      sym c.is_furnace.ensures ∙ c.if-not-is_furnace.false,
      le-leb _ _ c.if-marks-places.false,
      conflict_some b.symbols rows held small some,
    )) back.marks.is c.write_marks.ensures in
    record { value = r.0; marks_after = r.1 }
