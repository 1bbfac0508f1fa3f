-- A literal in a text, by its first byte.
use Rattle.meaning.proofs.Kit.{◌≡◌, ◌∙◌, sym, ap, refl, true, false, List, [], ◌∷◌, ◌≤◌, ℕ, ◌<◌, ◌+◌, suc, zero, add-one, arith, eqb, pos, nat_abs}
use Rattle.meaning.proofs.Kit.{lt_z, length, get_or, drop, drop-cons, ne_eqb, le-ltb}
use Rattle.spelling.specs.Text.{decimal}
use Rattle.dimacs.specs.Words.{beyond, denied, is_gap, literal_of, number_of, since, up_to}
use Rattle.dimacs.specs.Gathering.{Place, Spells}
use Rattle.dimacs.proofs.Scanning.{since_more}
use Rattle.dimacs.proofs.Numbers.{number_most}
use Rattle.dimacs.proofs.Tested.{by_test}

denied_none : (n : ℕ) → n ≡ 0 → denied n ≡ pos beyond
denied_none zero e = refl
denied_none (suc k) e = absurd (omega arith)

denied_size : (n : ℕ) → (n ≡ 0 → ⊥) → n ≡ nat_abs (denied n)
denied_size zero h = absurd (h refl)
denied_size (suc k) h = refl

denied_sign : (n : ℕ) → (n ≡ 0 → ⊥) → true ≡ lt_z (denied n) (pos 0)
denied_sign zero h = absurd (h refl)
denied_sign (suc k) h = refl

module _ (text : List ℕ) (at : ℕ) (h : at < length text) where
  -- the word from here on
  abbrev word : List ℕ
  word = up_to is_gap (drop at text)

  -- and the digits after a minus sign
  abbrev digits : List ℕ
  digits = up_to is_gap (drop (at + 1) text)

  module _ (minus : get_or text at 0 ≡ 45) where
    reads_minus : literal_of word ≡ denied (number_of digits)
    unfolding literal_of up_to
    reads_minus = rw (add-one, drop-cons text at 0 h, minus)

    -- these are read, up to r
    module _ {n r : ℕ} (read : (n ≡ number_of digits) × Place text r (since is_gap (drop (at + 1) text))) where
      minus_place : Place text r (since is_gap (drop at text))
      minus_place = record { within = read.1.within; stands = read.1.stands ∙ sym (since_more is_gap text at h (rw minus)) }

      pub minus_zero : n ≡ 0 → Spells word beyond false × Place text r (since is_gap (drop at text))
      minus_zero z =
          let e : literal_of word ≡ pos beyond = reads_minus ∙ denied_none _ (sym read.0 ∙ z) in
          (record { size = rw e; sign = rw e }, minus_place)

      pub minus_some : (n ≡ 0 → ⊥) → Spells word n true × Place text r (since is_gap (drop at text))
      minus_some some =
          let e : literal_of word ≡ denied n = reads_minus ∙ ap denied (sym read.0) in
          (record { size = rw e (denied_size n some); sign = rw e (denied_sign n some) }, minus_place)

  reads_plain : (get_or text at 0 ≡ 45 → ⊥) → literal_of word ≡ pos (number_of word)
  unfolding literal_of up_to number_of decimal
  reads_plain differs =
      let other = ne_eqb (get_or text at 0) 45 differs in
      rw (drop-cons text at 0 h) (by_test (is_gap (get_or text at 0)) (λ t. rw t) (λ f. rw (f, other)))

  pub plain : (get_or text at 0 ≡ 45 → ⊥) → {n : ℕ} → n ≡ number_of word → Spells word n false
  plain differs {n} is =
      let e : literal_of word ≡ pos n = reads_plain differs ∙ ap pos (sym is) in
      record { size = rw e; sign = rw e (sym (le-ltb n 0 (omega arith))) }

-- ---- none is beyond 32,768

denied_most : (n : ℕ) → n ≤ beyond → nat_abs (denied n) ≤ beyond
denied_most zero h = omega arith
denied_most (suc k) h = h

pub literal_most : (w : List ℕ) → nat_abs (literal_of w) ≤ beyond
unfolding literal_of
literal_most [] = omega arith
literal_most (c ∷ rest) = by_test (eqb c 45) (λ t. rw t (denied_most (number_of rest) (number_most rest))) (λ f. rw f (number_most (c ∷ rest)))
