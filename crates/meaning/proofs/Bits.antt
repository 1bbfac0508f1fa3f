-- A bit of a number by a shift, as code finds it.
use Rattle.meaning.proofs.Kit.{◌≡◌, ◌∙◌, ap, ℕ, suc, zero, ◌/◌, ◌^◌, ◌%◌, arith, eqb}
use lib.Pow.{shr-shr}
use Rattle.meaning.specs.Tests.{bit}

pub bit_is : (i m : ℕ) → bit i m ≡ eqb (m / 2 ^ i % 2) 1
bit_is zero m = let e : m / 2 ^ 0 ≡ m = omega arith in rw e
bit_is (suc i) m =
    let e : m / 2 / 2 ^ i ≡ m / 2 ^ suc i = shr-shr m 1 i ∙ ap (λ (k : ℕ). m / 2 ^ k) (omega arith) in
    bit_is i (m / 2) ∙ ap (λ (k : ℕ). eqb (k % 2) 1) e
