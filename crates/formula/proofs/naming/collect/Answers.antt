-- `naming::collect` meets its contract.
use Rattle.meaning.proofs.Kit.{◌≡◌, ◌∙◌, sym, false, Bool, ℕ, ◌+◌, add-zero, arith, get_or}
use Rattle.meaning.proofs.Tests.{false_of, clash, any_at, in_from}
use Rattle.formula.proofs.Gathering.{gathered_none, gathered_more, gathered_past, gathered_full, gathered_all}
use Rattle.formula.proofs.naming.collect.Goals.{then-marks-symbol+else-count-eq8, else-marks-symbol}
use Rattle.formula.proofs.naming.collect.Goals as goal

pub loop-symbol-init : goal.loop-symbol-init
loop-symbol-init c = gathered_none c.args.marks.now c.args.symbols

-- none of the eight is marked
pub loop-symbol-preserved-then-not-one_of_eight : goal.loop-symbol-preserved-then-not-one_of_eight
loop-symbol-preserved-then-not-one_of_eight c =
    let marked : ℕ → Bool = λ k. get_or c.args.marks.now (c.loop-symbol.symbol + k) false in
    let none = sym c.one_of_eight.ensures ∙ c.if-not-one_of_eight.true in
    gathered_past c.loop-symbol.invariant 8 (λ i h. false_of _ (λ e. clash (any_at marked (in_from 0 8 i (omega arith) (omega arith)) e) none))

pub returns-then-count-eq8 : goal.returns-then-count-eq8
returns-then-count-eq8 c = gathered_full c.loop-symbol.invariant c.if-marks-symbol.true c.if-count-eq8.true c.loop-symbol-test.true

pub bounds-list-count : goal.bounds-list-count
bounds-list-count c = let g = c.loop-symbol.invariant in omega (arith, g.few)

pub overflow_add-count : goal.overflow_add-count
overflow_add-count c = let g = c.loop-symbol.invariant in omega (arith, g.few)

pub loop-symbol-preserved : goal.loop-symbol-preserved
loop-symbol-preserved c =
    let g = c.loop-symbol.invariant in
    elim c.if-marks-symbol.branch [
      | then-marks-symbol+else-count-eq8 w ↦
          rw (w.list-is, w.count-is) (gathered_more g c.loop-symbol-test.true w.if-marks-symbol.true (omega (arith, g.few, w.if-count-eq8.false)))
      | else-marks-symbol w ↦
          rw (w.list-is, w.count-is) (gathered_past g 1 (λ i h. (let first : i ≡ 0 = omega arith in rw (first, add-zero) w.if-marks-symbol.false)))
    ]

pub returns : goal.returns
returns c = gathered_all c.loop-symbol.invariant c.loop-symbol-test.false
