-- `emitting::joins` meets its contract.
use Rattle.meaning.proofs.Kit.{◌≡◌, ◌∙◌, sym, ap, ◌≤◌, ℕ, List, arith, length}
use Rattle.chains.proofs.Words.{Result, Break, unit_at, read_of}
use Rattle.formula.proofs.Parts.{onward}
use Rattle.chains.proofs.Chains.{UnitRead, used_within, chain_fault, chain_ends, chain_stops, chain_goes}
use Rattle.chains.proofs.emitting.joins.Goals as goal

-- a unit is read from here on
unit_read : {b : ℕ} {text : List ℕ} {at : ℕ} (join : ℕ) {answer : Result ℕ Break} → at ≤ length text → answer ≡ read_of (unit_at b (onward at text))
    → UnitRead b text at join answer
unit_read join h e = record { inside = h; read = e }

pub loop-count-init : goal.loop-count-init
loop-count-init c = omega arith

pub returns-in-Err : goal.returns-in-Err
returns-in-Err c =
    let l = c.loop-count in
    let u = unit_read l.join l.invariant.0 c.unit.ensures in
    omega (arith, ap length (chain_fault u c.in-Err.is).0, l.invariant.2)

pub overflow_add-at : goal.overflow_add-at
overflow_add-at c =
    let l = c.loop-count in
    let u = unit_read l.join l.invariant.0 c.unit.ensures in
    omega (arith, used_within u c.in-Ok.is, c.well_formed.0.1)

pub returns-then-at-text : goal.returns-then-at-text
returns-then-at-text c =
    let l = c.loop-count in
    let u = unit_read l.join l.invariant.0 c.unit.ensures in
    omega (arith, ap length (chain_ends u c.in-Ok.is c.if-at-text.true).0, l.invariant.2)

pub bounds-text-at : goal.bounds-text-at
bounds-text-at c =
    let l = c.loop-count in
    let u = unit_read l.join l.invariant.0 c.unit.ensures in
    omega (arith, used_within u c.in-Ok.is)

pub returns-then-not-goes_on : goal.returns-then-not-goes_on
returns-then-not-goes_on c =
    let l = c.loop-count in
    let u = unit_read l.join l.invariant.0 c.unit.ensures in
    let stops = sym c.goes_on.ensures ∙ c.if-not-goes_on.true in
    omega (arith, ap length (chain_stops u c.in-Ok.is stops).0, l.invariant.2)

pub loop-count-preserved : goal.loop-count-preserved
loop-count-preserved c =
    let l = c.loop-count in
    let u = unit_read l.join l.invariant.0 c.unit.ensures in
    let used = used_within u c.in-Ok.is in
    let goes = sym c.goes_on.ensures ∙ c.if-not-goes_on.false in
    omega (arith, used, l.invariant, ap length (chain_goes u c.in-Ok.is (omega (arith, used)) goes).0)
