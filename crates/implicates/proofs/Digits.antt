-- Laws of a clause's digits, as they are read off its number from the last symbol on.
use Rattle.meaning.proofs.Kit.{◌≡◌, ◌∙◌, sym, ap, refl, ap₂, true, false, List, [], ◌∷◌, ◌++◌, ◌≤◌, ℕ, ◌<◌, ◌-◌, ◌+◌, suc, ◌*◌, ◌/◌, ◌^◌, ◌%◌}
use Rattle.meaning.proofs.Kit.{zero-add, arith, eqb, length, get_or, drop, take, length-append, drop-cons, take_all, take-suc, drop-length}
use native.Mathlib.Nat.{zero-mul, mul_assoc, add-mul}
use lib.Pow.{pow-add}
use Rattle.meaning.specs.Clauses.{Digit, denies, out}
use Rattle.implicates.specs.Numbers.{weigh, number, clause_at}
use Rattle.implicates.proofs.Numbers.{length_clause_at, number_clause_at}

weigh_mul : (d : Digit) (a b : ℕ) → weigh d (a * b) ≡ weigh d a * b
weigh_mul (denies false) a b = sym (zero-mul b)
weigh_mul (denies true) a b = refl
weigh_mul out a b = sym (mul_assoc 2 a b)

pub number_append : (p s : List Digit) → number (p ++ s) ≡ number p * 3 ^ length s + number s
number_append [] s = rw (zero-mul, zero-add)
number_append (d ∷ p) s =
    let w : weigh d (3 ^ length (p ++ s)) ≡ weigh d (3 ^ length p) * 3 ^ length s = rw (length-append, pow-add, weigh_mul) in
    ap₂ ◌+◌ w (number_append p s) ∙ omega (arith, add-mul (weigh d (3 ^ length p)) (number p) (3 ^ length s))

weigh_small : (d : Digit) → weigh d 1 < 3
weigh_small (denies false) = omega arith
weigh_small (denies true) = omega arith
weigh_small out = omega arith

-- a literal's digit is below 2, that of a symbol that is left out is 2
weighs_literal : (d : Digit) → weigh d 1 < 2 → d ≡ denies (eqb (weigh d 1) 1)
weighs_literal (denies false) h = refl
weighs_literal (denies true) h = refl
weighs_literal out h = absurd (omega arith)

weighs_out : (d : Digit) → 2 ≤ weigh d 1 → d ≡ out
weighs_out (denies false) h = absurd (omega arith)
weighs_out (denies true) h = absurd (omega arith)
weighs_out out h = refl

-- the digit of the k-th symbol, from 1
abbrev pub digit_of : List Digit → ℕ → Digit
digit_of v k = get_or v (k - 1) out

-- before the first turn of a loop that reads the digits of the clause numbered c: the whole number, and no symbol passed
module _ (n c : ℕ) (h : c < 3 ^ n) where
  pub number_first : c ≡ number (take n (clause_at n c))
  number_first = sym (ap number (take_all n (clause_at n c) (omega (arith, length_clause_at n c))) ∙ number_clause_at n c h)

  pub drop_first : drop n (clause_at n c) ≡ []
  drop_first = ap (λ (j : ℕ). drop j (clause_at n c)) (sym (length_clause_at n c)) ∙ drop-length (clause_at n c)

-- a turn of it: `rest` has the digits of the first k symbols, and then of one fewer
pub record Turn (n c rest k : ℕ) : Type 0 where
  pub known : c < 3 ^ n
  pub some : 0 < k
  pub low : k ≤ n
  pub left : rest ≡ number (take k (clause_at n c))

module _ {n c rest k : ℕ} (t : Turn n c rest k) where
  up : suc (k - 1) ≡ k
  up = omega arith

  pub take_turn : take k (clause_at n c) ≡ take (k - 1) (clause_at n c) ++ (digit_of (clause_at n c) k ∷ [])
  take_turn = ap (λ (j : ℕ). take j (clause_at n c)) (sym up) ∙ take-suc (clause_at n c) (k - 1) out (omega (arith, length_clause_at n c))

  pub drop_turn : drop (k - 1) (clause_at n c) ≡ digit_of (clause_at n c) k ∷ drop k (clause_at n c)
  drop_turn = rw up at (drop-cons (clause_at n c) (k - 1) out (omega (arith, length_clause_at n c)))

  rest_turn : rest ≡ 3 * number (take (k - 1) (clause_at n c)) + weigh (digit_of (clause_at n c) k) 1
  rest_turn = t.left ∙ ap number take_turn ∙ number_append (take (k - 1) (clause_at n c)) (digit_of (clause_at n c) k ∷ []) ∙ omega arith

  -- the last digit, and the number without it
  pub digit : rest % 3 ≡ weigh (digit_of (clause_at n c) k) 1
  digit = omega (arith, rest_turn, weigh_small (digit_of (clause_at n c) k))

  pub next_rest : rest / 3 ≡ number (take (k - 1) (clause_at n c))
  next_rest = omega (arith, rest_turn, weigh_small (digit_of (clause_at n c) k))

  -- which it tells
  pub is_literal : rest % 3 < 2 → digit_of (clause_at n c) k ≡ denies (eqb (rest % 3) 1)
  is_literal h = rw digit (weighs_literal _ (omega (arith, digit)))

  pub is_out : 2 ≤ rest % 3 → digit_of (clause_at n c) k ≡ out
  is_out h = weighs_out _ (omega (arith, digit))
