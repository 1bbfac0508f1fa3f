-- The numbers of rows' rules: how one is read, and what it is for one to be sound.
use Rattle.meaning.proofs.Kit.{◌≡◌, ◌∙◌, sym, ap, refl, subst, ⊎_elim, true, false, Bool, ◌&&◌, true≢false, and-false, List, ◌≤◌, ℕ, ◌<◌, ◌-◌, ◌+◌}
use Rattle.meaning.proofs.Kit.{eq-or-lt_of_le, add-one, arith, leb, T, ℤ, pos, nat_abs, negsuc, lt_z, w16, SFits, to_z-of_z, le-leb, ltb-true}
use Rattle.meaning.proofs.Kit.{leb-true}
use Rattle.meaning.proofs.Kit.{lt-leb, ltb-false}
use lib.Dec.{leb-zero}
use lib.Signed.{le_z, non_neg}
use Rattle.meaning.specs.Tests.{from}
use Rattle.meaning.proofs.Tests.{both_true, false_of, clash, all_of, all_at, from_in, in_from}
use Rattle.literals.specs.Row.{numbers_at, rule_number, rule_at, row_sound, rule_before, rule_sound, rows_sound}
use Rattle.literals.proofs.Signed.{back}

-- ---- a number of the table, as the number of a rule

pub number_is : (l : ℤ) → T (non_neg l) → nat_abs l ≡ rule_number l
number_is (pos n) t = refl
number_is (negsuc k) t = absurd t

pub number_none : {l : ℤ} → SFits w16 l → le_z (pos 0) (back l) ≡ false → 0 ≡ rule_number l
number_none {l} f e = go l (rw (to_z-of_z f) at e)
  where
    go : (z : ℤ) → le_z (pos 0) z ≡ false → 0 ≡ rule_number z
    go (pos n) e = absurd (subst T (sym (leb-zero n) ∙ e) tt)
    go (negsuc k) e = refl

-- ---- the three tests of a row's rule number

module _ (rules : ℕ) (table : List ℤ) (r : ℕ) where
  pub rule_low : rule_at table r < rule_before table r → rule_sound rules table r ≡ false
  unfolding rule_sound
  rule_low h = rw (lt-leb (rule_before table r) (rule_at table r) h) (and-false (leb 1 (rule_at table r) && leb (rule_at table r) rules))

  rule_high : rules < rule_at table r → rule_sound rules table r ≡ false
  unfolding rule_sound
  rule_high h = rw (lt-leb (rule_at table r) rules h, and-false (leb 1 (rule_at table r)))

  pub rule_sound_lem : 1 ≤ rule_at table r → rule_at table r ≤ rules → rule_before table r ≤ rule_at table r → rule_sound rules table r ≡ true
  unfolding rule_sound
  rule_sound_lem one most up = rw (le-leb 1 (rule_at table r) one, le-leb (rule_at table r) rules most) (le-leb (rule_before table r) (rule_at table r) up)

  pub rule_facts : rule_sound rules table r ≡ true → (1 ≤ rule_at table r) × (rule_at table r ≤ rules) × (rule_before table r ≤ rule_at table r)
  unfolding rule_sound
  rule_facts e =
      let n = rule_at table r in
      let last = both_true (leb 1 n && leb n rules) (leb (rule_before table r) n) e in
      let range = both_true (leb 1 n) (leb n rules) last.0 in
      (leb-true _ _ range.0, leb-true _ _ range.1, leb-true _ _ last.1)

-- ---- the numbers of the table as the machine compares them, with one that is not negative

pub number_below : (z : ℤ) (m : ℕ) → 1 ≤ m → lt_z z (pos m) ≡ true → rule_number z < m
number_below (pos n) m some e = ltb-true n m e
number_below (negsuc k) m some e = some

pub number_above : (z : ℤ) (m : ℕ) → lt_z z (pos m) ≡ false → (m ≤ rule_number z) × (z ≡ pos (rule_number z))
number_above (pos n) m e = (ltb-false n m e, refl)
number_above (negsuc k) m e = absurd (true≢false e)

-- ---- row by row: the rows passed are sound, but that their rules' numbers were not compared with the count: they are at most the last of them

pub record Rises (S : ℕ) (table : List ℤ) (row : ℕ) : Type 0 where
  pub some : 1 ≤ rule_before table row
  pub literals : (r : ℕ) → r < row → row_sound S (numbers_at table r) ≡ true
  pub numbers : (r : ℕ) → r < row → (1 ≤ rule_at table r) × (rule_before table r ≤ rule_at table r) × (rule_at table r ≤ rule_before table row)

pub before_first : (table : List ℤ) → rule_before table 0 ≡ 1
unfolding rule_before
before_first table = refl

pub before_next : (table : List ℤ) (row : ℕ) → rule_before table (row + 1) ≡ rule_at table row
unfolding rule_before
before_next table row = rw add-one

module _ {S : ℕ} {table : List ℤ} where
  pub rises_none : Rises S table 0
  rises_none = record { some = omega (arith, before_first table); literals = λ r h. absurd (omega arith); numbers = λ r h. absurd (omega arith) }

  pub rises_more : {row : ℕ} → Rises S table row → row_sound S (numbers_at table row) ≡ true → rule_before table row ≤ rule_at table row
      → Rises S table (row + 1)
  rises_more {row} p sound up =
      let next = before_next table row in
      record {
        some = omega (arith, p.some, next);
        literals = λ r h. ⊎_elim (λ e. rw e sound) (λ l. p.literals r l) (eq-or-lt_of_le (omega arith));
        numbers = λ r h. ⊎_elim
            (λ e. rw e (omega (arith, up, p.some), up, omega (arith, next)))
            (λ l. (let n = p.numbers r l in (n.0, n.1, omega (arith, n.2, up, next))))
            (eq-or-lt_of_le (omega arith));
      }

module _ (S : ℕ) (table : List ℤ) (used rules : ℕ) where
  abbrev test : ℕ → Bool
  test r = row_sound S (numbers_at table r) && rule_sound rules table r

  -- a row that is not sound
  pub unsound : (r : ℕ) → r < used → (row_sound S (numbers_at table r) && rule_sound rules table r) ≡ false → rows_sound S rules used table ≡ false
  unfolding rows_sound
  unsound r h e = false_of (rows_sound S rules used table) (λ t. clash (all_at test t (in_from 0 used r (omega arith) (omega arith))) e)

  -- at the end the last number decides
  pub rises_within : Rises S table used → rule_before table used ≤ rules → rows_sound S rules used table ≡ true
  unfolding rows_sound
  rises_within p few =
      all_of test (from 0 used)
      (λ r m. (let h = from_in 0 used r m in
      let low : r < used = omega (arith, h.1) in
      let n = p.numbers r low in
      rw (p.literals r low) (rule_sound_lem rules table r n.0 (omega (arith, n.2)) n.1)))

  pub rises_beyond : 1 ≤ used → rules < rule_before table used → rows_sound S rules used table ≡ false
  rises_beyond one many =
      let last = used - 1 in
      let after : last + 1 ≡ used = omega arith in
      let high : rules < rule_at table last = omega (arith, before_next table last, ap (rule_before table) after) in
      unsound last (omega arith) (rw (rule_high rules table last high) (and-false (row_sound S (numbers_at table last))))
