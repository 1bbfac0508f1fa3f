-- `literals::rows_sound` meets its contract.
use Rattle.meaning.proofs.Kit.{◌≡◌, ◌∙◌, sym, ap, subst, ap₂, ⊎_elim, Bool, and-false, ℕ, ◌+◌, ◌*◌, arith, ℤ, List, pos, lt_z, get_or, w16}
use Rattle.meaning.proofs.Kit.{SFits, to_z, of_z, to_z-of_z, le-leb, lt-leb}
use mir.Facts.{sfits_to_z}
use Rattle.meaning.proofs.Tables.{le_or_lt}
use Rattle.literals.specs.Row.{width, most_literals, numbers_at, rule_at, row_sound, rule_before, rows_sound}
use Rattle.literals.proofs.RuleNumbers.{rule_low, number_below, number_above, unsound, before_first, before_next, Rises, rises_none, rises_more}
use Rattle.literals.proofs.RuleNumbers.{rises_within}
use Rattle.literals.proofs.RuleNumbers.{rises_beyond}
use Rattle.literals.proofs.rows_sound.Goals as goal

-- the number of a row's rule, as it stands in the table
abbrev number : List ℤ → (row : ℕ) → ℤ
number table row = get_or table (width * row + most_literals) (pos 0)

-- the test compares it with the last one
compared : {z last : ℤ} {n : ℕ} {b : Bool} → SFits w16 z → last ≡ pos n → lt_z (to_z w16 (of_z w16 z)) last ≡ b → lt_z z (pos n) ≡ b
compared f is e = ap₂ lt_z (sym (to_z-of_z f)) (sym is) ∙ e

pub returns-then-used-eq0 : goal.returns-then-used-eq0
unfolding rows_sound
returns-then-used-eq0 c = rw c.if-used-eq0.true

pub loop-row-init : goal.loop-row-init
loop-row-init c = (sym (ap pos (before_first c.args.table.now)), rises_none)

pub returns-then-not-row_sound : goal.returns-then-not-row_sound
unfolding numbers_at
returns-then-not-row_sound c =
    let e = sym c.row_sound.ensures ∙ c.if-not-row_sound.true in
    let a = c.args in
    sym (unsound a.symbols a.table.now a.used a.rules c.loop-row.row c.loop-row-test.true (rw e))

pub returns-then-rule-last : goal.returns-then-rule-last
unfolding rule_at
returns-then-rule-last c =
    let a = c.args in
    let row = c.loop-row.row in
    let z = number a.table.now row in
    let fits : SFits w16 z = record { sfits = omega arith } in
    let low = number_below z _ c.loop-row.invariant.1.some (compared fits c.loop-row.invariant.0 c.if-rule-last.true) in
    let wrong = rule_low a.rules a.table.now row low in
    let literals = row_sound a.symbols (numbers_at a.table.now row) in
    sym (unsound a.symbols a.table.now a.used a.rules row c.loop-row-test.true (rw wrong (and-false literals)))

pub loop-row-preserved : goal.loop-row-preserved
unfolding rule_at numbers_at
loop-row-preserved c =
    let table = c.args.table.now in
    let row = c.loop-row.row in
    let z = number table row in
    let fits : SFits w16 z = record { sfits = omega arith } in
    let up = number_above z _ (compared fits c.loop-row.invariant.0 c.if-rule-last.false) in (
      to_z-of_z fits ∙ up.1 ∙ ap pos (sym (before_next table row)),
      rises_more c.loop-row.invariant.1 (sym c.row_sound.ensures ∙ c.if-not-row_sound.false) up.0,
    )

pub overflow_cast-result : goal.overflow_cast-result
overflow_cast-result c =
    let is = c.loop-row.invariant.0 in
    let small : SFits w16 (pos (rule_before c.args.table.now c.loop-row.row)) = subst (SFits w16) is (sfits_to_z {w = w16} c.loop-row.auto.last) in
    rw is (tt, record { fits = omega (arith, small.sfits) })

pub returns : goal.returns
returns c =
    let a = c.args in
    let last = rule_before a.table.now a.used in
    let all : c.loop-row.row ≡ a.used = omega arith in
    let rises = subst (λ (n : ℕ). Rises a.symbols a.table.now n) all c.loop-row.invariant.1 in
    let is : to_z w16 c.loop-row.last-bits ≡ pos last = c.loop-row.invariant.0 ∙ ap (λ (n : ℕ). pos (rule_before a.table.now n)) all in
    rw is
    (⊎_elim (λ h. le-leb last a.rules h ∙ sym (rises_within a.symbols a.table.now a.used a.rules rises h))
    (λ h. lt-leb last a.rules h ∙ sym (rises_beyond a.symbols a.table.now a.used a.rules (omega arith) h))
    (le_or_lt last a.rules))
