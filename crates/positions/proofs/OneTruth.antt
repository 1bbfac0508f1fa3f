-- The truth table of "exactly one": it is marked at the powers of two.
use Rattle.meaning.proofs.Kit.{◌≡◌, ◌∙◌, sym, ap, refl, ap₂, ⊎_elim, true, false, Bool, List, ◌∷◌, ◌++◌, append-nil, append_assoc, ◌≤◌, ℕ, ◌<◌, ◌-◌}
use Rattle.meaning.proofs.Kit.{◌+◌, suc, ◌*◌, zero, ◌^◌, arith, pow_mono, pow_pos, length, replicate, set, length-append, length-replicate}
use Rattle.meaning.proofs.Kit.{replicate-append-replicate, set_at}
use Rattle.meaning.proofs.Tables.{le_or_lt}
use Rattle.positions.specs.Writing.{only_one}

pub length_only : (k : ℕ) → length (only_one k) ≡ 2 ^ k
unfolding only_one
length_only zero = refl
length_only (suc k) =
    length-append (only_one k) (true ∷ replicate (2 ^ k - 1) false)
    ∙ omega (arith, length_only k, length-replicate (2 ^ k - 1) false, pow_pos k)

-- the table is marked at the powers below `number`, which is one itself
pub record Marked (n : ℕ) (truth : List Bool) (number : ℕ) : Type 0 where
  pub power : ℕ
  pub within : power ≤ n
  pub number_is : number ≡ 2 ^ power
  pub is : truth ≡ only_one power ++ replicate (2 ^ n - 2 ^ power) false

pub marked_long : {n : ℕ} {truth : List Bool} {number : ℕ} → Marked n truth number → length truth ≡ 2 ^ n
marked_long {n} m =
    let k = m.power in
    ap length m.is ∙ length-append (only_one k) (replicate (2 ^ n - 2 ^ k) false)
    ∙ omega (arith, length_only k, length-replicate (2 ^ n - 2 ^ k) false, pow_mono m.within)

pub marked_none : (n : ℕ) → Marked n (replicate (2 ^ n) false) 1
unfolding only_one
marked_none n =
    let e : 2 ^ n ≡ suc (2 ^ n - 1) = omega (arith, pow_pos n) in
    record { power = 0; within = omega arith; number_is = refl; is = ap (λ (k : ℕ). replicate k false) e }

-- a power below 2 ^ n is of less than n
below : (k n : ℕ) → 2 ^ k < 2 ^ n → k < n
below k n h = ⊎_elim (λ l. absurd (omega (arith, pow_mono l))) (λ l. l) (le_or_lt n k)

pub marked_one : {n : ℕ} {truth : List Bool} {number : ℕ} → Marked n truth number → number < length truth
    → Marked n (set truth number true) (2 * number)
unfolding only_one
marked_one {n} {truth} {number} m h =
    let k = m.power in
    let less : 2 ^ k < 2 ^ n = omega (arith, m.number_is, marked_long m) in
    let next = below k n less in
    let twice = pow_mono next in
    let some = pow_pos k in
    let first : 2 ^ n - 2 ^ k ≡ suc (2 ^ n - 2 ^ k - 1) = omega arith in
    let sum : 2 ^ k - 1 + (2 ^ n - 2 ^ suc k) ≡ 2 ^ n - 2 ^ k - 1 = omega (arith, twice, some) in
    record {
      power = suc k;
      within = next;
      number_is = omega (arith, m.number_is);
      is =
          ap₂ (λ (l : List Bool) (at : ℕ). set l at true) (m.is ∙ ap (λ (j : ℕ). only_one k ++ replicate j false) first) m.number_is
          ∙ set_at (only_one k) false (replicate (2 ^ n - 2 ^ k - 1) false) true (2 ^ k) (length_only k)
          ∙ ap (λ (l : List Bool). only_one k ++ true ∷ l)
          (sym (replicate-append-replicate (2 ^ k - 1) (2 ^ n - 2 ^ suc k) false ∙ ap (λ (j : ℕ). replicate j false) sum))
          ∙ sym (append_assoc (only_one k) (true ∷ replicate (2 ^ k - 1) false) (replicate (2 ^ n - 2 ^ suc k) false));
    }

pub marked_all : {n : ℕ} {truth : List Bool} {number : ℕ} → Marked n truth number → length truth ≤ number → truth ≡ only_one n
marked_all {n} {truth} {number} m h =
    let k = m.power in
    let full : 2 ^ n ≤ 2 ^ k = omega (arith, m.number_is, marked_long m) in
    let same : k ≡ n = ⊎_elim (λ l. omega (arith, l, m.within)) (λ l. absurd (omega (arith, full, pow_mono l, pow_pos k))) (le_or_lt n k) in
    let nothing : 2 ^ n - 2 ^ k ≡ 0 = omega arith in
    m.is ∙ ap (λ (j : ℕ). only_one k ++ replicate j false) nothing ∙ append-nil (only_one k) ∙ ap only_one same
