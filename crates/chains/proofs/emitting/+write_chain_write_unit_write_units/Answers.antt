-- `emitting::write_chain`, `emitting::write_units` and `emitting::write_unit` call each other, and meet their contracts.
use Rattle.meaning.proofs.Kit.{◌≡◌, ◌∙◌, sym, List, ◌≤◌, ℕ, ◌+◌, arith, length, get_or, length-take-le}
use Rattle.chains.proofs.Words.{Result, Break, unit_at, read_of, Denial}
use Rattle.formula.proofs.Parts.{onward, onward_length}
use Rattle.chains.proofs.Runs.{lead_extent}
use Rattle.chains.proofs.Units.{start_long}
use Rattle.chains.proofs.Chains.{UnitRead, used_within, chain_fault, chain_ends, chain_stops, chain_goes}
use Rattle.chains.proofs.Writes.{chain_put, Signed, signs_within, symbol_within, by_neither, by_digits, by_seventeenth}
use Rattle.chains.proofs.Writes.{by_bracket, chain_within, unit_room, units_next, units_last}
use Rattle.chains.proofs.emitting.+write_chain_write_unit_write_units.Goals as goal

-- ---- the chain

pub write_chain-returns : goal.write_chain-returns
write_chain-returns t c =
    let a = c.args in
    chain_put a.brackets a.text.now a.out.now a.at c.joins-n.result
    c.joins-n.ensures c.mark.ensures c.kind_for-kind.ensures c.fill.ensures c.write_units.ensures

-- ---- the unit

pub write_unit-slice_bounds-minuses-end : goal.write_unit-slice_bounds-minuses-end
write_unit-slice_bounds-minuses-end t c =
    let text = c.args.text.now in
    sym (length-take-le c.run-skipped.result text (omega (arith, c.run-skipped.ensures, lead_extent Denial text)))

pub write_unit-fill-requires : goal.write_unit-fill-requires
write_unit-fill-requires t c =
    let d : Signed c.args.text.now c.run-skipped.result c.minuses-n.result = record { passed = c.run-skipped.ensures; counted = c.minuses-n.ensures } in
    omega (arith, signs_within c.args.brackets d, c.requires)

pub write_unit-overflow_add-next : goal.write_unit-overflow_add-next
write_unit-overflow_add-next t c =
    let d : Signed c.args.text.now c.run-skipped.result c.minuses-n.result = record { passed = c.run-skipped.ensures; counted = c.minuses-n.ensures } in
    omega (arith, signs_within c.args.brackets d, c.requires)

pub write_unit-slice_bounds-body-count : goal.write_unit-slice_bounds-body-count
write_unit-slice_bounds-body-count t c = omega (arith, c.run-skipped.ensures, lead_extent Denial c.args.text.now)

pub write_unit-slice_bounds-body-start : goal.write_unit-slice_bounds-body-start
write_unit-slice_bounds-body-start t c = omega (arith, c.run-skipped.ensures, lead_extent Denial c.args.text.now)

-- a number takes two bytes
pub write_unit-write_symbol-requires : goal.write_unit-write_symbol-requires
write_unit-write_symbol-requires t c =
    let d : Signed c.args.text.now c.run-skipped.result c.minuses-n.result = record { passed = c.run-skipped.ensures; counted = c.minuses-n.ensures } in
    omega (arith, symbol_within c.args.brackets d (sym c.start_of.ensures ∙ c.in-Digits.is), c.requires)

pub write_unit-overflow_add-result : goal.write_unit-overflow_add-result
write_unit-overflow_add-result t c =
    let d : Signed c.args.text.now c.run-skipped.result c.minuses-n.result = record { passed = c.run-skipped.ensures; counted = c.minuses-n.ensures } in
    omega (arith, symbol_within c.args.brackets d (sym c.start_of.ensures ∙ c.in-Digits.is), c.requires)

pub write_unit-returns-then-brackets-eq0 : goal.write_unit-returns-then-brackets-eq0
write_unit-returns-then-brackets-eq0 t c =
    let d : Signed c.args.text.now c.run-skipped.result c.minuses-n.result = record { passed = c.run-skipped.ensures; counted = c.minuses-n.ensures } in
    by_seventeenth c.args.brackets d c.fill.ensures (sym c.start_of.ensures ∙ c.in-Bracket.is) c.if-brackets-eq0.true

pub write_unit-write_chain-requires : goal.write_unit-write_chain-requires
write_unit-write_chain-requires t c =
    let text = c.args.text.now in
    let n = c.run-skipped.result in
    let d : Signed text n c.minuses-n.result = record { passed = c.run-skipped.ensures; counted = c.minuses-n.ensures } in
    let bracket = sym c.start_of.ensures ∙ c.in-Bracket.is in (
      omega (arith, start_long (onward n text) bracket, onward_length n text, onward_length 1 (onward n text)),
      omega (arith, chain_within c.args.brackets d bracket (omega arith), c.requires),
    )

pub write_unit-returns-in-Digits : goal.write_unit-returns-in-Digits
write_unit-returns-in-Digits t c =
    let d : Signed c.args.text.now c.run-skipped.result c.minuses-n.result = record { passed = c.run-skipped.ensures; counted = c.minuses-n.ensures } in
    by_digits c.args.brackets d c.fill.ensures (sym c.start_of.ensures ∙ c.in-Digits.is) c.write_symbol.ensures

pub write_unit-returns-else-brackets-eq0 : goal.write_unit-returns-else-brackets-eq0
write_unit-returns-else-brackets-eq0 t c =
    let d : Signed c.args.text.now c.run-skipped.result c.minuses-n.result = record { passed = c.run-skipped.ensures; counted = c.minuses-n.ensures } in
    by_bracket c.args.brackets d c.fill.ensures (sym c.start_of.ensures ∙ c.in-Bracket.is) (omega arith) c.write_chain.ensures

pub write_unit-returns-in-Neither : goal.write_unit-returns-in-Neither
write_unit-returns-in-Neither t c =
    let d : Signed c.args.text.now c.run-skipped.result c.minuses-n.result = record { passed = c.run-skipped.ensures; counted = c.minuses-n.ensures } in
    by_neither c.args.brackets d c.fill.ensures (sym c.start_of.ensures ∙ c.in-Neither.is)

-- ---- the units

-- a unit is read from here on
unit_read : {b : ℕ} {text : List ℕ} {at : ℕ} (join : ℕ) {answer : Result ℕ Break} → at ≤ length text → answer ≡ read_of (unit_at b (onward at text))
    → UnitRead b text at join answer
unit_read join h e = record { inside = h; read = e }

pub write_units-write_unit-to-requires : goal.write_units-write_unit-to-requires
write_units-write_unit-to-requires t c =
    let l = c.loop-count in
    let a = c.args in (
      omega (arith, onward_length l.at a.text.now),
      omega (arith, unit_room a.brackets a.text.now l.at l.join, l.invariant.1.ends, c.requires),
    )

-- the unit that was written is the last
pub write_units-returns-in-Err : goal.write_units-returns-in-Err
write_units-returns-in-Err t c =
    let l = c.loop-count in
    let u = unit_read l.join l.invariant.0 c.unit.ensures in
    units_last c.args.brackets c.args.text.now l.at l.join c.write_unit-to.ensures l.invariant.1 (chain_fault u c.in-Err.is).0

pub write_units-overflow_add-at : goal.write_units-overflow_add-at
write_units-overflow_add-at t c =
    let l = c.loop-count in
    let u = unit_read l.join l.invariant.0 c.unit.ensures in
    omega (arith, used_within u c.in-Ok.is, c.well_formed.0.1)

pub write_units-returns-then-at-text : goal.write_units-returns-then-at-text
write_units-returns-then-at-text t c =
    let l = c.loop-count in
    let u = unit_read l.join l.invariant.0 c.unit.ensures in
    let ends = chain_ends u c.in-Ok.is c.if-at-text.true in
    units_last c.args.brackets c.args.text.now l.at l.join c.write_unit-to.ensures l.invariant.1 ends.0

pub write_units-bounds-text-at : goal.write_units-bounds-text-at
write_units-bounds-text-at t c =
    let l = c.loop-count in
    let u = unit_read l.join l.invariant.0 c.unit.ensures in
    omega (arith, used_within u c.in-Ok.is)

pub write_units-returns-then-not-goes_on : goal.write_units-returns-then-not-goes_on
write_units-returns-then-not-goes_on t c =
    let l = c.loop-count in
    let u = unit_read l.join l.invariant.0 c.unit.ensures in
    let stops = chain_stops u c.in-Ok.is (sym c.goes_on.ensures ∙ c.if-not-goes_on.true) in
    units_last c.args.brackets c.args.text.now l.at l.join c.write_unit-to.ensures l.invariant.1 stops.0

pub write_units-loop-count-preserved : goal.write_units-loop-count-preserved
write_units-loop-count-preserved t c =
    let l = c.loop-count in
    let a = c.args in
    let n = c.in-Ok.count in
    let u = unit_read l.join l.invariant.0 c.unit.ensures in
    let used = used_within u c.in-Ok.is in
    let goes = chain_goes u c.in-Ok.is (omega (arith, used)) (sym c.goes_on.ensures ∙ c.if-not-goes_on.false) in
    let next = units_next a.brackets a.text.now l.at l.join c.write_unit-to.ensures l.invariant.1 in
    (omega (arith, used), next (get_or a.text.now (l.at + n) 0) (l.at + n + 1) goes.0)
