-- A number as it is written is read as that symbol, where neither a digit nor a space follows it.
use Rattle.meaning.proofs.Kit.{◌≡◌, ◌∙◌, ap, refl, true, false, List, [], ◌∷◌, ◌++◌, ◌≤◌, ℕ, ◌+◌, suc, add-zero, arith, eqb, leb, length, get_or}
use Rattle.meaning.proofs.Kit.{drop-append_seam, ne_eqb, leb-true}
use lib.Seq.{take-append_seam}
use Rattle.chains.proofs.Words.{symbol, Parsed, good, Join, And, Or, Implies, Same, decimal, is_digit, natural, lead, number_at, unit_of, mark_of}
use Rattle.chains.proofs.Words.{Blank, Number}
use Rattle.meaning.specs.Tests.{all}
use Rattle.meaning.proofs.Tests.{both_true}
use Rattle.spelling.proofs.Digits.{decimal_natural, natural_digits, natural_some}

-- what may follow a unit as it is written: neither a digit nor a space
pub record Stops (rest : List ℕ) : Type 0 where
  pub digit : is_digit (get_or rest 0 0) ≡ false
  pub space : eqb (get_or rest 0 0) 32 ≡ false

-- the end, a closing bracket and the marks
pub end_stops : Stops []
end_stops = record { digit = refl; space = refl }

pub close_stops : (rest : List ℕ) → Stops (41 ∷ rest)
close_stops rest = record { digit = refl; space = refl }

pub mark_stops : (join : Join) (rest : List ℕ) → Stops (mark_of join ∷ rest)
mark_stops And rest = record { digit = refl; space = refl }
mark_stops Or rest = record { digit = refl; space = refl }
mark_stops Implies rest = record { digit = refl; space = refl }
mark_stops Same rest = record { digit = refl; space = refl }

pub lead_space : (rest : List ℕ) → Stops rest → lead Blank rest ≡ 0
unfolding lead
lead_space [] s = refl
lead_space (c ∷ rest) s = rw s.space

-- digits are read as far as they go, and the spaces after them
lead_none : (rest : List ℕ) → is_digit (get_or rest 0 0) ≡ false → lead Number rest ≡ 0
unfolding lead
lead_none [] e = refl
lead_none (c ∷ rest) e = rw e

lead_digits : (l rest : List ℕ) → all is_digit l ≡ true → is_digit (get_or rest 0 0) ≡ false → lead Number (l ++ rest) ≡ length l
unfolding lead
lead_digits [] rest d e = lead_none rest e
lead_digits (c ∷ l) rest d e = let both = both_true (is_digit c) (all is_digit l) d in rw both.0 (ap suc (lead_digits l rest both.1 e))

pub number_read : (l rest : List ℕ) → all is_digit l ≡ true → is_digit (get_or rest 0 0) ≡ false
    → number_at (l ++ rest) ≡ good (symbol (decimal 0 l)) (length l + lead Blank rest)
number_read l rest d e = rw (lead_digits l rest d e, take-append_seam l rest, drop-append_seam l rest)

-- a digit is neither a space nor a minus sign
digit_other : (c k : ℕ) → is_digit c ≡ true → k ≤ 47 → eqb c k ≡ false
digit_other c k d h =
    let low = leb-true 48 c (both_true (leb 48 c) (leb c 57) d).0 in
    ne_eqb c k (λ e. omega arith)

digits_unit : (bracket : List ℕ → Parsed) (l rest : List ℕ) → 1 ≤ length l → all is_digit l ≡ true → Stops rest
    → unit_of bracket (l ++ rest) ≡ good (symbol (decimal 0 l)) (length l)
unfolding unit_of
digits_unit bracket [] rest h d s = absurd (omega arith)
digits_unit bracket (c ∷ l) rest h d s =
    let first = (both_true (is_digit c) (all is_digit l) d).0 in
    rw (digit_other c 32 first (omega arith), digit_other c 45 first (omega arith), first)
    (number_read (c ∷ l) rest d s.digit ∙ rw (lead_space rest s, add-zero))

pub number_unit : (bracket : List ℕ → Parsed) (s : ℕ) (rest : List ℕ) → Stops rest
    → unit_of bracket (natural s ++ rest) ≡ good (symbol s) (length (natural s))
number_unit bracket s rest stops =
    digits_unit bracket (natural s) rest (natural_some s) (natural_digits s) stops
    ∙ ap (λ (n : ℕ). good (symbol n) (length (natural s))) (decimal_natural s)
