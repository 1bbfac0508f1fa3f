-- One turn of a loop over the candidates or over a list, and the size of a set as a count of digits.
use Rattle.meaning.proofs.Kit.{◌≡◌, ◌∙◌, sym, ap, inl, inr, ◌⊎◌, ◌≢◌, true, false, Bool, ◌&&◌, List, ◌∷◌, ◌≤◌, ℕ, ◌<◌}
use Rattle.meaning.proofs.Kit.{◌+◌, suc, ◌*◌, ◌/◌, ◌%◌, ◌^◌, zero, add-one, arith, length, get_or, set, ne_eqb, eq-eqb, drop, drop_of_length-le, drop-cons}
use lib.Count.{ones, ones-ones, ones_step}
use lib.Arith.{mod-mul}
use lib.Pow.{pow_pos}
use native.Mathlib.Nat.{pow-suc}
use Rattle.meaning.specs.Tests.{all, odd}
use Rattle.candidates.specs.Sets.{chosen, set_each, size}

-- ---- the candidates of a set, from candidate i on

module _ (places : List ℕ) (i rest : ℕ) where
  chosen_one : i < length places → odd rest ≡ true → chosen (drop i places) rest ≡ get_or places i 0 ∷ chosen (drop (i + 1) places) (rest / 2)
  chosen_one l e = rw (drop-cons places i 0 l, e, add-one i)

  chosen_next : i < length places → odd rest ≡ false → chosen (drop i places) rest ≡ chosen (drop (i + 1) places) (rest / 2)
  chosen_next l e = rw (drop-cons places i 0 l, e, add-one i)

  -- flags that are set for each candidate of a set, one further
  pub marked_turn : (to : Bool) {flags now all : List Bool} → i < length places → set_each to flags (chosen (drop i places) rest) ≡ all
      → ((rest % 2 ≡ 1) × (now ≡ set flags (get_or places i 0) to)) ⊎ ((rest % 2 ≢ 1) × (now ≡ flags))
      → set_each to now (chosen (drop (i + 1) places) (rest / 2)) ≡ all
  marked_turn to {flags} l e (inl w) = rw w.1 (sym (ap (set_each to flags) (chosen_one l (eq-eqb (rest % 2) 1 w.0))) ∙ e)
  marked_turn to {flags} l e (inr w) = rw w.1 (sym (ap (set_each to flags) (chosen_next l (ne_eqb (rest % 2) 1 w.0))) ∙ e)

-- ---- the elements from i on

module _ {A : Type 0} (test : A → Bool) (xs : List A) (i : ℕ) where
  pub all_drop : (d : A) → i < length xs → all test (drop i xs) ≡ (test (get_or xs i d) && all test (drop (i + 1) xs))
  all_drop d l = rw (drop-cons xs i d l, add-one i)

  pub all_past : length xs ≤ i → all test (drop i xs) ≡ true
  all_past l = rw (drop_of_length-le xs {i = i} l)

-- ---- the size

-- it is how many of the lowest n digits are set
pub ones_size : (n m : ℕ) → ones (m % 2 ^ n) ≡ size n m
ones_size zero m = let e : m % 1 ≡ 0 = omega arith in rw e (ones-ones 0)
ones_size (suc n) m =
    let low : ℕ = m / 2 % 2 ^ n in
    let split : m % 2 ^ suc n ≡ low * 2 + m % 2 = ap (λ (k : ℕ). m % k) (pow-suc 2 n) ∙ mod-mul m (pow_pos n) (omega arith) in
    let half : (low * 2 + m % 2) / 2 ≡ low = omega arith in
    let last : (low * 2 + m % 2) % 2 ≡ m % 2 = omega arith in
    ap ones split ∙ ones_step (low * 2 + m % 2) ∙ rw (last, half) (ap (λ (k : ℕ). m % 2 + k) (ones_size n (m / 2)))
