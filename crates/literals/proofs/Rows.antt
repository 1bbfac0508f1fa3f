-- The definitions of `specs/Row.antt` taken one number at a time: what the numbers of a row from the kth on say, by number k.
use Rattle.meaning.proofs.Kit.{◌≡◌, ◌∙◌, sym, ap, refl, ⊎_elim, true, false, Bool, cond, ◌&&◌, List, [], ◌∷◌, ◌≤◌, ℕ, ◌<◌, ◌-◌, ◌+◌, add-one}
use Rattle.meaning.proofs.Kit.{arith, eqb, ℤ, pos, nat_abs, length, get_or, drop, take, take_all, length-drop, length-take-le, drop_of_length-le}
use Rattle.meaning.proofs.Kit.{drop-cons, ne_eqb, eq-eqb}
use Rattle.meaning.proofs.Kit.{le-leb, lt-ltb, le-ltb, lt-leb}
use Rattle.meaning.proofs.Tables.{le_or_lt}
use Rattle.literals.specs.Literal.{in_range}
use Rattle.literals.specs.Row.{most_literals, zeros, rising, row_sound}

-- the eight numbers from place `at` on, as they are borrowed
abbrev pub lent : List ℤ → (at : ℕ) → List ℤ
lent table at = take (at + most_literals - at) (drop at table)

pub lent_is : (table : List ℤ) (at : ℕ) → lent table at ≡ take most_literals (drop at table)
lent_is table at = let eight : at + most_literals - at ≡ most_literals = omega arith in ap (λ (n : ℕ). take n (drop at table)) eight

pub lent_long : (table : List ℤ) (at : ℕ) → at + most_literals ≤ length table → length (lent table at) ≡ most_literals
lent_long table at h = length-take-le (at + most_literals - at) (drop at table) (omega (arith, length-drop at table)) ∙ omega arith

-- the numbers after the first
pub after_first : (row : List ℤ) → take (length row - 1) (drop 1 row) ≡ drop 1 row
after_first row = take_all (length row - 1) (drop 1 row) (omega (arith, length-drop 1 row))

number_and_rest : (row : List ℤ) (k : ℕ) → k < length row → drop k row ≡ get_or row k (pos 0) ∷ drop (k + 1) row
number_and_rest row k h = rw (add-one, drop-cons row k (pos 0))

-- ---- `rising`, at number k, whose symbol's number is s

-- zeros are all that rises above the largest symbol
zeros_rising : (S : ℕ) (ls : List ℤ) → zeros ls ≡ rising S S ls
unfolding zeros rising
zeros_rising S [] = refl
zeros_rising S (l ∷ ls) =
    same (eqb (nat_abs l) 0) (zeros ls) _
    (⊎_elim (λ h. rw (le-ltb S (nat_abs l) h)) (λ h. rw (lt-ltb S (nat_abs l) h, lt-leb (nat_abs l) S h)) (le_or_lt (nat_abs l) S))
  where
    same : (b x y : Bool) → y ≡ false → (b && x) ≡ cond b x y
    same true x y e = refl
    same false x y e = sym e

module _ (S last : ℕ) (row : List ℤ) (k : ℕ) (h : k < length row) (s : ℕ) (is : s ≡ nat_abs (get_or row k (pos 0))) where
  pub rising_zero : s ≡ 0 → rising S last (drop k row) ≡ rising S S (drop (k + 1) row)
  unfolding rising
  rising_zero z = rw (number_and_rest row k h, ← is, eq-eqb s 0 z) (zeros_rising S _)

  pub rising_low : (s ≡ 0 → ⊥) → s ≤ last → rising S last (drop k row) ≡ false
  unfolding rising
  rising_low n low = rw (number_and_rest row k h, ← is, ne_eqb s 0 n, le-ltb last s low)

  pub rising_high : (s ≡ 0 → ⊥) → last < s → S < s → rising S last (drop k row) ≡ false
  unfolding rising
  rising_high n up high = rw (number_and_rest row k h, ← is, ne_eqb s 0 n, lt-ltb last s up, lt-leb s S high)

  pub rising_next : (s ≡ 0 → ⊥) → last < s → s ≤ S → rising S last (drop k row) ≡ rising S s (drop (k + 1) row)
  unfolding rising
  rising_next n up within = rw (number_and_rest row k h, ← is, ne_eqb s 0 n, lt-ltb last s up, le-leb s S within)

pub rising_none : (S last : ℕ) (row : List ℤ) (k : ℕ) → length row ≤ k → rising S last (drop k row) ≡ true
unfolding rising
rising_none S last row k h = rw (drop_of_length-le row {i = k} h)

-- ---- `row_sound`, at the first number

pub row_no : (S : ℕ) (row : List ℤ) → in_range S (get_or row 0 (pos 0)) ≡ false → row_sound S row ≡ false
unfolding row_sound
row_no S [] e = refl
row_no S (l ∷ ls) e = rw e

pub row_first : (S : ℕ) (row : List ℤ) → 0 < length row → in_range S (get_or row 0 (pos 0)) ≡ true → (s : ℕ) → s ≡ nat_abs (get_or row 0 (pos 0))
    → row_sound S row ≡ rising S s (drop 1 row)
unfolding row_sound
row_first S [] h e s is = absurd (omega arith)
row_first S (l ∷ ls) h e s is = rw (e, is)
