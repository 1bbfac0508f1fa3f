-- `literals::row_sound` meets its contract.
use Rattle.meaning.proofs.Kit.{◌∙◌, sym, ap, ◌<◌, ◌-◌, ℕ, arith, List, ℤ, pos, length, get_or, drop, take, w16, SFits}
use Rattle.literals.specs.Row.{rising, row_sound}
use Rattle.literals.proofs.Signed.{back_abs}
use Rattle.literals.proofs.Arguments.{range_is}
use Rattle.literals.proofs.Rows.{lent, lent_is, lent_long, after_first, rising_high, rising_low, rising_next, rising_none, rising_zero, row_first}
use Rattle.literals.proofs.Rows.{row_no}
use Rattle.literals.proofs.row_sound.Goals.{then-s-last-via-then-s-last, then-s-last-via-else-s-last+then-symbols-s}
use Rattle.literals.proofs.row_sound.Goals.{then-s-eq0, else-s-eq0+else-s-last+else-symbols-s}
use Rattle.literals.proofs.row_sound.Goals as goal

-- the numbers after the first
abbrev others : List ℤ → (at : ℕ) → List ℤ
others table at = take (length (lent table at) - 1) (drop 1 (lent table at))

pub returns-then-not-in_range : goal.returns-then-not-in_range
returns-then-not-in_range c =
    let row = lent c.args.table.now c.args.at in
    let fits : SFits w16 (get_or row 0 (pos 0)) = record { sfits = omega arith } in
    sym (ap (row_sound c.args.symbols) (sym (lent_is c.args.table.now c.args.at))
    ∙ row_no c.args.symbols row (range_is fits _ _ c.in_range.ensures ∙ c.if-not-in_range.true))

pub loop-l-init : goal.loop-l-init
loop-l-init c =
    let row = lent c.args.table.now c.args.at in
    let fits : SFits w16 (get_or row 0 (pos 0)) = record { sfits = omega arith } in
    let sound = range_is fits _ _ c.in_range.ensures ∙ c.if-not-in_range.false in
    let some : 0 < length row = omega (arith, lent_long c.args.table.now c.args.at c.requires) in
    ap (row_sound c.args.symbols) (sym (lent_is c.args.table.now c.args.at))
    ∙ row_first c.args.symbols row some sound _ (c.symbol-last.ensures ∙ back_abs fits)
    ∙ ap (rising c.args.symbols c.symbol-last.result) (sym (after_first row))

pub returns-then-s-last : goal.returns-then-s-last
returns-then-s-last c =
    let rest = others c.args.table.now c.args.at in
    let k = c.loop-l.l-index in
    let fits : SFits w16 (get_or rest k (pos 0)) = record { sfits = omega arith } in
    let is = c.symbol-s.ensures ∙ back_abs fits in
    sym (c.loop-l.invariant ∙ elim c.then-s-last.branch [
      | then-s-last-via-then-s-last w ↦ rising_low _ _ rest k c.loop-l-test.true _ is c.if-s-eq0.false w.if-s-last.true
      | then-s-last-via-else-s-last+then-symbols-s w ↦
          rising_high _ _ rest k c.loop-l-test.true _ is c.if-s-eq0.false w.if-s-last.false w.if-symbols-s.true
    ])

pub loop-l-preserved : goal.loop-l-preserved
loop-l-preserved c =
    let rest = others c.args.table.now c.args.at in
    let k = c.loop-l.l-index in
    let fits : SFits w16 (get_or rest k (pos 0)) = record { sfits = omega arith } in
    let is = c.symbol-s.ensures ∙ back_abs fits in
    c.loop-l.invariant ∙ elim c.if-s-eq0.branch [
      | then-s-eq0 w ↦ rw w.last-is (rising_zero _ _ rest k c.loop-l-test.true _ is w.if-s-eq0.true)
      | else-s-eq0+else-s-last+else-symbols-s w ↦
          rw w.last-is (rising_next _ _ rest k c.loop-l-test.true _ is w.if-s-eq0.false w.if-s-last.false w.if-symbols-s.false)
    ]

pub returns : goal.returns
returns c = sym (c.loop-l.invariant ∙ rising_none _ _ _ _ c.loop-l-test.false)
