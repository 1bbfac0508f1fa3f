-- `reading::chain` and `reading::unit` call each other, and meet their contracts.
use Rattle.meaning.proofs.Kit.{◌≡◌, ◌∙◌, sym, ap, List, ◌≤◌, ℕ, ◌-◌, ◌+◌, arith, length}
use Rattle.chains.proofs.Words.{Result, Break, chain_at, unit_at, start_of, read_of, extent, closed_answer, Denial, Bracket}
use Rattle.formula.proofs.Parts.{onward, onward_length}
use Rattle.chains.proofs.Runs.{lead_extent}
use Rattle.chains.proofs.Answering.{closed_read}
use Rattle.chains.proofs.Extents.{chain_within, closed_within}
use Rattle.chains.proofs.Chains.{UnitRead, chain_starts, seen, chain_fault, used_within, chain_ends, chain_stops, chain_goes}
use Rattle.chains.proofs.Units.{start_long, by_digits, by_neither, by_seventeenth, by_bracket, number_within}
use Rattle.chains.proofs.reading.+chain_unit.Goals as goal

-- ---- the chain

-- a unit is read from here on
unit_read : {b : ℕ} {text : List ℕ} {at : ℕ} (join : ℕ) {answer : Result ℕ Break} → at ≤ length text → answer ≡ read_of (unit_at b (onward at text))
    → UnitRead b text at join answer
unit_read join h e = record { inside = h; read = e }

pub chain-loop-b-init : goal.chain-loop-b-init
chain-loop-b-init t c = (omega arith, chain_starts c.args.brackets c.args.text.now)

pub chain-overflow_add-at : goal.chain-overflow_add-at
chain-overflow_add-at t c =
    let u = unit_read c.loop-b.join c.loop-b.invariant.0 c.unit.ensures in
    omega (arith, ap extent c.in-Err.is, seen u, c.well_formed.0.1)

pub chain-returns-in-Err : goal.chain-returns-in-Err
chain-returns-in-Err t c =
    let u = unit_read c.loop-b.join c.loop-b.invariant.0 c.unit.ensures in
    c.breaks.ensures ∙ sym (c.loop-b.invariant.1 ∙ (chain_fault u c.in-Err.is).1)

pub chain-overflow_add-at-in-Ok : goal.chain-overflow_add-at-in-Ok
chain-overflow_add-at-in-Ok t c =
    let u = unit_read c.loop-b.join c.loop-b.invariant.0 c.unit.ensures in
    omega (arith, used_within u c.in-Ok.is, c.well_formed.0.1)

pub chain-returns-then-at-text : goal.chain-returns-then-at-text
chain-returns-then-at-text t c =
    let u = unit_read c.loop-b.join c.loop-b.invariant.0 c.unit.ensures in
    sym (c.loop-b.invariant.1 ∙ (chain_ends u c.in-Ok.is c.if-at-text.true).1)

pub chain-bounds-text-at : goal.chain-bounds-text-at
chain-bounds-text-at t c =
    let u = unit_read c.loop-b.join c.loop-b.invariant.0 c.unit.ensures in
    omega (arith, used_within u c.in-Ok.is)

pub chain-returns-then-not-goes_on : goal.chain-returns-then-not-goes_on
chain-returns-then-not-goes_on t c =
    let u = unit_read c.loop-b.join c.loop-b.invariant.0 c.unit.ensures in
    let stops = sym c.goes_on.ensures ∙ c.if-not-goes_on.true in
    sym (c.loop-b.invariant.1 ∙ (chain_stops u c.in-Ok.is stops).1)

pub chain-loop-b-preserved : goal.chain-loop-b-preserved
chain-loop-b-preserved t c =
    let u = unit_read c.loop-b.join c.loop-b.invariant.0 c.unit.ensures in
    let used = used_within u c.in-Ok.is in
    let goes = sym c.goes_on.ensures ∙ c.if-not-goes_on.false in
    (omega (arith, used), c.loop-b.invariant.1 ∙ (chain_goes u c.in-Ok.is (omega (arith, used)) goes).1)

-- ---- the unit

-- the mark of a bracket is there
opened : (skipped : ℕ) (text : List ℕ) → start_of (onward skipped text) ≡ Bracket → skipped + 1 ≤ length text
opened skipped text s = omega (arith, start_long (onward skipped text) s, onward_length skipped text)

pub unit-slice_bounds-body-count : goal.unit-slice_bounds-body-count
unit-slice_bounds-body-count t c = omega (arith, c.run-skipped.ensures, lead_extent Denial c.args.text.now)

pub unit-slice_bounds-body-start : goal.unit-slice_bounds-body-start
unit-slice_bounds-body-start t c = omega (arith, c.run-skipped.ensures, lead_extent Denial c.args.text.now)

pub unit-overflow_add-result : goal.unit-overflow_add-result
unit-overflow_add-result t c =
    let text = c.args.text.now in
    let n = c.run-skipped.result in
    let skipped : n ≤ length text = omega (arith, c.run-skipped.ensures, lead_extent Denial text) in
    omega (arith, c.number.ensures, number_within (onward n text), onward_length n text, skipped, c.well_formed.0.1)

pub unit-returns-then-brackets-eq0 : goal.unit-returns-then-brackets-eq0
unit-returns-then-brackets-eq0 t c =
    let s = sym c.start_of.ensures ∙ c.in-Bracket.is in
    c.breaks.ensures ∙ by_seventeenth c.args.brackets c.args.text.now c.run-skipped.ensures s c.if-brackets-eq0.true

pub unit-closed-requires : goal.unit-closed-requires
unit-closed-requires t c =
    let inner = onward 1 (onward c.run-skipped.result c.args.text.now) in
    omega (arith, ap extent c.chain.ensures, chain_within (c.args.brackets - 1) inner)

pub unit-past_by-requires : goal.unit-past_by-requires
unit-past_by-requires t c =
    let text = c.args.text.now in
    let n = c.run-skipped.result in
    let body = onward n text in
    let inner = onward 1 body in
    let p = chain_at (c.args.brackets - 1) inner in
    let read = ap extent (c.closed.ensures ∙ ap (closed_answer inner) c.chain.ensures ∙ sym (closed_read inner p)) in
    let within = closed_within inner p (chain_within (c.args.brackets - 1) inner) in
    let mark = opened n text (sym c.start_of.ensures ∙ c.in-Bracket.is) in
    omega (arith, read, within, mark, onward_length n text, onward_length 1 body, c.well_formed.0.1)

pub unit-returns-in-Digits : goal.unit-returns-in-Digits
unit-returns-in-Digits t c =
    let s = sym c.start_of.ensures ∙ c.in-Digits.is in
    by_digits c.args.brackets c.args.text.now c.run-skipped.ensures s c.number.ensures

pub unit-returns-else-brackets-eq0 : goal.unit-returns-else-brackets-eq0
unit-returns-else-brackets-eq0 t c =
    let s = sym c.start_of.ensures ∙ c.in-Bracket.is in
    let bracket = by_bracket c.args.brackets c.args.text.now c.run-skipped.ensures s (omega arith) in
    c.past_by.ensures ∙ bracket c.chain.ensures c.closed.ensures

pub unit-returns-in-Neither : goal.unit-returns-in-Neither
unit-returns-in-Neither t c =
    let s = sym c.start_of.ensures ∙ c.in-Neither.is in
    c.breaks-in-Neither.ensures ∙ by_neither c.args.brackets c.args.text.now c.run-skipped.ensures s
