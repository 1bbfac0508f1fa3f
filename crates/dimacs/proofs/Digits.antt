-- A number, or a literal, as it is written is one word, and that word spells it.
use Rattle.meaning.proofs.Kit.{◌≡◌, ◌∙◌, ap, true, not, List, [], ◌∷◌, ◌≤◌, ℕ, ◌<◌, suc, arith, leb, ℤ, pos, nat_abs, negsuc, length, ne_eqb, leb-true}
use Rattle.meaning.specs.Tests.{all}
use Rattle.meaning.proofs.Tests.{all_imp, both_true}
use Rattle.spelling.specs.Text.{is_digit, literal, natural}
use Rattle.spelling.proofs.Digits.{natural_some, natural_digits, decimal_natural}
use Rattle.dimacs.specs.Words.{beyond, denied, ends, in_word, literal_of, number_of}

pub natural_spells : (n : ℕ) → n < beyond → number_of (natural n) ≡ n
unfolding number_of
natural_spells n h = rw (natural_digits n, decimal_natural n) (omega arith)

-- ---- a digit is no gap, no line's end, and no minus sign

digit_low : (c : ℕ) → is_digit c ≡ true → 48 ≤ c
digit_low c e = leb-true 48 c (both_true (leb 48 c) (leb c 57) e).0

pub natural_word : (n : ℕ) → all in_word (natural n) ≡ true
natural_word n =
    all_imp is_digit in_word (natural n)
    (λ c m e. let low = digit_low c e in rw (ne_eqb c 32 (omega arith), ne_eqb c 10 (omega arith)))
    (natural_digits n)

pub natural_line : (n : ℕ) → all (λ c. not (ends c)) (natural n) ≡ true
natural_line n =
    all_imp is_digit (λ c. not (ends c)) (natural n)
    (λ c m e. let low = digit_low c e in rw (ne_eqb c 10 (omega arith)))
    (natural_digits n)

digits_plain : (a : List ℕ) → 1 ≤ length a → all is_digit a ≡ true → literal_of a ≡ pos (number_of a)
unfolding literal_of
digits_plain [] h e = absurd (omega arith)
digits_plain (c ∷ a) h e =
    let low = digit_low c (both_true (is_digit c) (all is_digit a) e).0 in
    rw (ne_eqb c 45 (omega arith))

-- ---- literals

pub literal_some : (l : ℤ) → 1 ≤ length (literal l)
literal_some (pos n) = natural_some n
literal_some (negsuc k) = omega arith

pub literal_word : (l : ℤ) → all in_word (literal l) ≡ true
literal_word (pos n) = natural_word n
literal_word (negsuc k) = natural_word (suc k)

pub literal_spells : (l : ℤ) → nat_abs l < beyond → literal_of (literal l) ≡ l
unfolding literal_of
literal_spells (pos n) h = digits_plain (natural n) (natural_some n) (natural_digits n) ∙ ap pos (natural_spells n h)
literal_spells (negsuc k) h = ap denied (natural_spells (suc k) h)
