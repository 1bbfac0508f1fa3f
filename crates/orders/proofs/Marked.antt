-- The pairs that a word of marks allows, from its last mark to its first.
use Rattle.meaning.proofs.Kit.{◌≡◌, cond, List, ◌≤◌, ℕ, ◌<◌, ◌-◌, ◌+◌, suc, ◌*◌, ◌^◌, pow-succ', arith, eqb, length, get_or, drop, drop-cons}
use Rattle.meaning.proofs.Kit.{drop-length}
use native.Mathlib.Nat.{pow-zero, mul-suc, mul-le-mul_left, pow-le-pow_right}
use Rattle.orders.specs.Marks.{marked_by}

-- ---- numbers below a power

pub few_below : (b n m : ℕ) → 0 < b → n ≤ m → b ^ n ≤ b ^ m
few_below b n m p h = pow-le-pow_right {n = b} p {i = n} {j = m} h

pub none_below : (b n : ℕ) → 0 < b ^ (n - n)
none_below b n = let e : n - n ≡ 0 = omega arith in rw (e, pow-zero b) (omega arith)

-- a digit more
pub grown_below : (b n v d : ℕ) → v < b ^ n → d < b → b * v + d < b ^ suc n
grown_below b n v d h k = omega (arith, pow-succ' b n, mul-suc b v, mul-le-mul_left {m = suc v} {n = b ^ n} b h)

-- ---- the marks from place j on, k being the next

pub marked_none : (word : List ℕ) → 0 ≡ marked_by (drop (length word) word)
unfolding marked_by
marked_none word = rw (drop-length word)

pub marked_step : (word : List ℕ) (j k : ℕ) → k ≡ suc j → j < length word
    → 2 * marked_by (drop k word) + cond (eqb (get_or word j 0) 49) 1 0 ≡ marked_by (drop j word)
unfolding marked_by
marked_step word j k e h = rw (drop-cons word j 0 h, e)
