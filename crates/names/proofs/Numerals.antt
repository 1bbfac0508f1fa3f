-- Laws of a number's last digits: how many there are, how they are written, and that they spell it.
use Rattle.meaning.proofs.Kit.{◌≡◌, ◌∙◌, sym, ap, refl, true, List, [], ◌∷◌, ◌++◌, append_assoc, ◌≤◌, ℕ, ◌<◌, ◌+◌, suc, zero, ◌/◌}
use Rattle.meaning.proofs.Kit.{◌%◌, arith, length, drop, set, length-append, length-set, drop-cons, get_or-set_same, drop-set-lt}
use Rattle.meaning.specs.Tests.{all}
use Rattle.meaning.proofs.Tests.{all_append}
use Rattle.spelling.specs.Text.{decimal, is_digit}
use Rattle.spelling.proofs.Pieces.{tens}
use Rattle.spelling.proofs.Digits.{digit_is, decimal_snoc}
use Rattle.names.specs.Replacing.{numeral}

pub numeral_length : (n number : ℕ) → length (numeral n number) ≡ n
unfolding numeral
numeral_length zero number = refl
numeral_length (suc n) number = length-append (numeral n (number / 10)) ((48 + number % 10) ∷ []) ∙ omega (arith, numeral_length n (number / 10))

-- ---- written from the last digit on

-- what the part comes to, where the digits from k on are written
abbrev pub filled : (k rest : ℕ) → (part : List ℕ) → List ℕ
filled k rest part = numeral k rest ++ drop k part

pub filled_more : (k rest : ℕ) (part : List ℕ) → k < length part → filled (suc k) rest part ≡ filled k (rest / 10) (set part k (48 + rest % 10))
unfolding numeral
filled_more k rest part h =
    let d = 48 + rest % 10 in
    let is : drop k (set part k d) ≡ d ∷ drop (suc k) part =
    drop-cons (set part k d) k 0 (rw length-set h) ∙ rw (get_or-set_same, drop-set-lt (suc k) part k d (omega arith)) in
    append_assoc (numeral k (rest / 10)) (d ∷ []) (drop (suc k) part) ∙ ap (λ l. numeral k (rest / 10) ++ l) (sym is)

pub filled_all : (rest : ℕ) (part : List ℕ) → filled 0 rest part ≡ part
unfolding numeral
filled_all rest part = refl

-- ---- read again

pub numeral_digits : (n number : ℕ) → all is_digit (numeral n number) ≡ true
unfolding numeral
numeral_digits zero number = refl
numeral_digits (suc n) number =
    rw (all_append is_digit (numeral n (number / 10)) ((48 + number % 10) ∷ []), numeral_digits n (number / 10), digit_is (number % 10) (omega arith))

-- n digits spell each number below 10ⁿ
pub numeral_spells : (n number : ℕ) → number < tens n → decimal 0 (numeral n number) ≡ number
unfolding numeral decimal
numeral_spells zero number h = omega arith
numeral_spells (suc n) number h =
    let rest = numeral_spells n (number / 10) (omega arith) in
    decimal_snoc 0 (numeral n (number / 10)) (48 + number % 10) ∙ omega (arith, rest)

-- and three are enough for a symbol
tens_some : (n : ℕ) → 1 ≤ tens n
tens_some zero = omega arith
tens_some (suc n) = omega (arith, tens_some n)

pub tens_enough : (n number : ℕ) → 3 ≤ n → number < 1000 → number < tens n
tens_enough zero number few h = absurd (omega arith)
tens_enough (suc zero) number few h = absurd (omega arith)
tens_enough (suc (suc zero)) number few h = absurd (omega arith)
tens_enough (suc (suc (suc n))) number few h = omega (arith, tens_some n)
