-- A number as it is written is digits, and they spell it.
use Rattle.meaning.proofs.Kit.{◌≡◌, ◌∙◌, ap, refl, true, false, Bool, List, [], ◌∷◌, ◌++◌, ◌≤◌, ℕ, ◌<◌, ◌-◌, ◌+◌, suc, ◌*◌, zero, ◌/◌, ◌%◌, arith}
use Rattle.meaning.proofs.Kit.{leb, ltb, length, le-leb, ltb-true, ltb-false}
use Rattle.meaning.specs.Tests.{all}
use Rattle.meaning.proofs.Tests.{all_append, and_intro}
use Rattle.spelling.specs.Text.{decimal, is_digit, natural}
use Rattle.spelling.proofs.Pieces.{natural_long, natural_longer, natural_short}

-- what one digit has, and a number with a digit more, every number has

module _ (P : ℕ → Type 0) (short : (n : ℕ) → n < 10 → P n) (long : (n : ℕ) → 10 ≤ n → P (n / 10) → P n) where
  by_steps : (steps n : ℕ) → n < steps → P n
  by_steps zero n h = absurd (omega arith)
  by_steps (suc steps) n h = go (ltb n 10) refl (λ far. by_steps steps (n / 10) (omega arith))
    where
      go : (b : Bool) → ltb n 10 ≡ b → (10 ≤ n → P (n / 10)) → P n
      go true e ih = short n (ltb-true n 10 e)
      go false e ih = let far = ltb-false n 10 e in long n far (ih far)

  by_digits : (n : ℕ) → P n
  by_digits n = by_steps (suc n) n (omega arith)

pub natural_some : (n : ℕ) → 1 ≤ length (natural n)
natural_some =
    by_digits (λ n. 1 ≤ length (natural n))
    (λ n h. omega (arith, ap length (natural_short n h)))
    (λ n h ih. omega (arith, natural_longer n h))

pub digit_is : (d : ℕ) → d < 10 → is_digit (48 + d) ≡ true
digit_is d h = and_intro (leb 48 (48 + d)) (leb (48 + d) 57) (le-leb 48 (48 + d) (omega arith)) (le-leb (48 + d) 57 (omega arith))

pub natural_digits : (n : ℕ) → all is_digit (natural n) ≡ true
natural_digits =
    by_digits (λ n. all is_digit (natural n) ≡ true)
    (λ n h. rw (natural_short n h, digit_is n h))
    (λ n h ih. rw (natural_long n h, all_append is_digit (natural (n / 10)) ((48 + n % 10) ∷ []), ih, digit_is (n % 10) (omega arith)))

pub decimal_snoc : (sum : ℕ) (a : List ℕ) (c : ℕ) → decimal sum (a ++ (c ∷ [])) ≡ decimal sum a * 10 + (c - 48)
unfolding decimal
decimal_snoc sum [] c = refl
decimal_snoc sum (x ∷ a) c = decimal_snoc (sum * 10 + (x - 48)) a c

pub decimal_natural : (n : ℕ) → decimal 0 (natural n) ≡ n
unfolding decimal
decimal_natural =
    by_digits (λ n. decimal 0 (natural n) ≡ n)
    (λ n h. ap (decimal 0) (natural_short n h) ∙ omega arith)
    (λ n h ih. ap (decimal 0) (natural_long n h) ∙ decimal_snoc 0 (natural (n / 10)) (48 + n % 10) ∙ omega (arith, ih))
