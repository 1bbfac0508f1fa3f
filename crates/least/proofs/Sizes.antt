-- The numbers of the sets of k candidates: none is below 2 ^ k - 1, and none of n candidates above 2 ^ n - 2 ^ (n - k).
use Rattle.meaning.proofs.Kit.{◌≡◌, ap, ⊎_elim, ◌≤◌, ℕ, ◌<◌, ◌-◌, ◌+◌, suc, zero, ◌/◌, ◌^◌, ◌%◌, one-le-pow, arith}
use native.Mathlib.Nat.{pow-suc}
use Rattle.candidates.specs.Sets.{size}
use Rattle.meaning.proofs.Tables.{le_or_lt}
use Rattle.candidates.proofs.ChosenSets.{size_le}

pub size_low : (n m : ℕ) → 2 ^ size n m ≤ m + 1
size_low zero m = omega arith
size_low (suc n) m =
    ⊎_elim
    (λ (odd : 1 ≤ m % 2).
    let k : size (suc n) m ≡ suc (size n (m / 2)) = omega arith in
    let p = pow-suc 2 (size n (m / 2)) in
    omega (arith, ap (λ (j : ℕ). 2 ^ j) k, size_low n (m / 2)))
    (λ (even : m % 2 < 1).
    let k : size (suc n) m ≡ size n (m / 2) = omega arith in
    omega (arith, ap (λ (j : ℕ). 2 ^ j) k, size_low n (m / 2)))
    (le_or_lt 1 (m % 2))

pub size_high : (n m : ℕ) → m < 2 ^ n → m + 2 ^ (n - size n m) ≤ 2 ^ n
size_high zero m l = omega arith
size_high (suc n) m l =
    let p = pow-suc 2 n in
    let half : m / 2 < 2 ^ n = omega arith in
    let ih = size_high n (m / 2) half in
    ⊎_elim
    (λ (odd : 1 ≤ m % 2).
    let k : suc n - size (suc n) m ≡ n - size n (m / 2) = omega (arith, size_le n (m / 2)) in
    omega (arith, ap (λ (j : ℕ). 2 ^ j) k, one-le-pow (n - size n (m / 2)) 2 (omega arith)))
    (λ (even : m % 2 < 1).
    let k : suc n - size (suc n) m ≡ suc (n - size n (m / 2)) = omega (arith, size_le n (m / 2)) in
    let q = pow-suc 2 (n - size n (m / 2)) in
    omega (arith, ap (λ (j : ℕ). 2 ^ j) k))
    (le_or_lt 1 (m % 2))
