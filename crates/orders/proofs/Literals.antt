-- The literal of a symbol's number: it fits 16 bits, and so does its opposite. A word's first byte tells which of them it is.
use Rattle.meaning.proofs.Kit.{◌≡◌, ◌∙◌, sym, ap, refl, subst, ⊎_elim, List, [], ◌∷◌, ◌≤◌, ℕ, ◌<◌, ◌-◌, suc, zero, arith, eqb, pos, ◌-ℤ◌, length}
use Rattle.meaning.proofs.Kit.{get_or, drop, w16, SFits, to_z, of_z, to_z-of_z, to_z_pos, ne_eqb, eq-eqb, lt-ltb}
use Rattle.meaning.proofs.Tests.{true_or_false}
use Rattle.names.specs.Names.{is_known, is_name}
use Rattle.names.proofs.Finding.{symbol_few}
use Rattle.orders.specs.Reading.{Narrow, affirmed, denied, is_number, literal_in, most, named_in, opposite, symbol_in, value_of}
use Rattle.std.specs.Prelude.{ℤ, Result, Ok, Err}
use Rattle.orders.specs.declared.Slip.{Slip}
use Rattle.orders.specs.declared.Slip.TheVariants.{SymbolDue}

-- ---- a number that fits

pub number_fits : (n : ℕ) → n ≤ most → SFits w16 (pos n)
number_fits n h = record { sfits = omega arith }

read_as : (n : ℕ) → n ≤ most → to_z w16 n ≡ pos n
read_as n h = to_z_pos w16 {n = n} (omega arith)

taken_off : (n : ℕ) → pos 0 -ℤ pos n ≡ opposite n
taken_off zero = refl
taken_off (suc k) = let e : suc k - suc 0 ≡ k = omega arith in rw (lt-ltb 0 (suc k) (omega arith), e)

opposite_is : (n : ℕ) → n ≤ most → pos 0 -ℤ to_z w16 n ≡ opposite n
opposite_is n h = rw (read_as n h) (taken_off n)

small_opposite : (n : ℕ) → n ≤ most → SFits w16 (opposite n)
small_opposite zero h = record { sfits = omega arith }
small_opposite (suc k) h = record { sfits = omega arith }

pub opposite_fits : (n : ℕ) → n ≤ most → SFits w16 (pos 0 -ℤ to_z w16 n)
opposite_fits n h = rw (opposite_is n h) (small_opposite n h)

-- ---- of a number that was found

module _ {found : Result ℕ Slip} {n : ℕ} (e : found ≡ Ok n) (h : Narrow found) where
  pub narrow_number : n ≤ most
  narrow_number = subst Narrow e h

  pub affirmed_is : Ok (to_z w16 n) ≡ affirmed found
  affirmed_is = ap Ok (read_as n narrow_number) ∙ ap affirmed (sym e)

  pub denied_is : Ok (to_z w16 (of_z w16 (pos 0 -ℤ to_z w16 n))) ≡ denied found
  denied_is = ap Ok (to_z-of_z (opposite_fits n narrow_number) ∙ opposite_is n narrow_number) ∙ ap denied (sym e)

-- ---- a word

value_narrow : (word : List ℕ) → value_of word ≤ most
unfolding value_of
value_narrow word = omega arith

named_narrow : (names word : List ℕ) → Narrow (named_in names word)
named_narrow names word =
    ⊎_elim (λ e. rw e (omega (arith, symbol_few names word e))) (λ e. rw e tt) (true_or_false (is_known names word))

pub symbol_narrow : (names word : List ℕ) → Narrow (symbol_in names word)
unfolding symbol_in
symbol_narrow names word =
    ⊎_elim
    (λ e. rw e (value_narrow word))
    (λ e. rw e (⊎_elim (λ n. rw n (named_narrow names word)) (λ n. rw n tt) (true_or_false (is_name word))))
    (true_or_false (is_number word))

module _ (names : List ℕ) where
  pub literal_of_none : (word : List ℕ) → length word ≡ 0 → Err SymbolDue ≡ literal_in names word
  unfolding literal_in
  literal_of_none [] h = refl
  literal_of_none (c ∷ rest) h = absurd (omega arith)

  pub literal_denied : (word : List ℕ) → 0 < length word → get_or word 0 0 ≡ 45 → denied (symbol_in names (drop 1 word)) ≡ literal_in names word
  unfolding literal_in
  literal_denied [] h e = absurd (omega arith)
  literal_denied (c ∷ rest) h e = rw (eq-eqb c 45 e)

  pub literal_affirmed : (word : List ℕ) → 0 < length word → (get_or word 0 0 ≡ 45 → ⊥) → affirmed (symbol_in names word) ≡ literal_in names word
  unfolding literal_in
  literal_affirmed [] h e = absurd (omega arith)
  literal_affirmed (c ∷ rest) h e = rw (ne_eqb c 45 e)

-- ---- a literal that a word says fits

abbrev pub Fitting : Result ℤ Slip → Type 0
Fitting (Ok l) = SFits w16 l
Fitting (Err slip) = Unit {0}

affirmed_fits : (found : Result ℕ Slip) → Narrow found → Fitting (affirmed found)
affirmed_fits (Ok n) h = number_fits n h
affirmed_fits (Err slip) h = tt

denied_fits : (found : Result ℕ Slip) → Narrow found → Fitting (denied found)
denied_fits (Ok n) h = small_opposite n h
denied_fits (Err slip) h = tt

pub literal_fits : (names word : List ℕ) → Fitting (literal_in names word)
unfolding literal_in
literal_fits names [] = tt
literal_fits names (c ∷ rest) =
    ⊎_elim
    (λ e. rw e (denied_fits (symbol_in names rest) (symbol_narrow names rest)))
    (λ e. rw e (affirmed_fits (symbol_in names (c ∷ rest)) (symbol_narrow names (c ∷ rest))))
    (true_or_false (eqb c 45))
