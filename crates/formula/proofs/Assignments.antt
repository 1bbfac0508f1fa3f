-- The assignments to n symbols in order are those that the numbers below 2^n stand for; so the truth table is filled by numbers.
use Rattle.meaning.proofs.Kit.{◌≡◌, ◌∙◌, sym, ap, refl, ap₂, true, false, Bool, List, [], ◌∷◌, ◌++◌, map, ℕ, ◌<◌, ◌+◌, suc, ◌*◌, zero, ◌/◌, ◌^◌, ◌%◌}
use Rattle.meaning.proofs.Kit.{zero-add, one-mul, pow-succ', arith, eqb, pow_pos, length}
use native.Mathlib.Nat.{suc-add, mul_assoc, div-eq_of_lt, add-div_left, mul-add-div_right}
use Rattle.meaning.specs.Tests.{tabulate}
use Rattle.formula.proofs.Words.{look, Parsed, bits, holds_of, truth_of}
use Rattle.meaning.specs.Clauses.{assignments}
use Rattle.meaning.proofs.Tables.{tabulate_same, map_tabulate}
use Rattle.formula.specs.Answers.{bit_at}

-- ---- the bits of a number

bit_low : (n k : ℕ) → k < 2 ^ n → bit_at k n ≡ false
unfolding bit_at
bit_low n k h = ap (λ (q : ℕ). eqb (q % 2) 1) (div-eq_of_lt h)

bit_high : (n k : ℕ) → k < 2 ^ n → bit_at (2 ^ n + k) n ≡ true
unfolding bit_at
bit_high n k h =
    ap (λ (q : ℕ). eqb (q % 2) 1) (add-div_left k (pow_pos n) ∙ ap (λ (q : ℕ). q + 1) (div-eq_of_lt h))

bit_shift : (n c k : ℕ) → bit_at (c * 2 * 2 ^ n + k) n ≡ bit_at k n
unfolding bit_at
bit_shift n c k =
    let even : (c * 2 + k / 2 ^ n) % 2 ≡ k / 2 ^ n % 2 = omega arith in
    ap (λ (q : ℕ). eqb (q % 2) 1) (mul-add-div_right (pow_pos n) (c * 2) k) ∙ ap (λ (r : ℕ). eqb r 1) even

-- the n lowest bits do not change by a multiple of 2^n
bits_shift : (n c k : ℕ) → bits n (c * 2 ^ n + k) ≡ bits n k
unfolding bits
bits_shift zero c k = refl
bits_shift (suc n) c k =
    rw (pow-succ' 2 n, sym (mul_assoc c 2 (2 ^ n))) (ap₂ (λ (b : Bool) (l : List Bool). b ∷ l) (bit_shift n c k) (bits_shift n (c * 2) k))

-- ---- the list of all assignments

-- a table after a table is one table
tabulate_append : {A : Type 0} (d : A) (m n : ℕ) (f g h : ℕ → A) → ((i : ℕ) → i < m → f i ≡ h i) → ((j : ℕ) → j < n → g j ≡ h (m + j))
    → tabulate m f ++ tabulate n g ≡ tabulate (m + n) h
tabulate_append d zero n f g h p q = tabulate_same d n (0 + n) g h (sym (zero-add n)) (λ i b. q i (rw zero-add at b) ∙ ap h (zero-add i))
tabulate_append {A} d (suc m) n f g h p q =
    rw suc-add
    (ap₂ (λ (x : A) (l : List A). x ∷ l) (p 0 (omega arith))
    (tabulate_append d m n (λ i. f (suc i)) g (λ i. h (suc i)) (λ i b. p (suc i) (omega arith)) (λ j b. q j b ∙ ap h (suc-add m j))))

-- number k of the assignments to n symbols is the one that k stands for
pub assignments_bits : (n : ℕ) → assignments n ≡ tabulate (2 ^ n) (bits n)
unfolding bits
assignments_bits zero = refl
assignments_bits (suc n) =
    let t = 2 ^ n in
    let double : t + t ≡ 2 ^ suc n = omega (arith, pow-succ' 2 n) in
    let half : (b : Bool) → map (λ a. b ∷ a) (assignments n) ≡ tabulate t (λ k. b ∷ bits n k) =
    λ b. ap (map (λ a. b ∷ a)) (assignments_bits n) ∙ map_tabulate (λ a. b ∷ a) t (bits n) in
    ap₂ (λ (x y : List (List Bool)). x ++ y) (half false) (half true)
    ∙ tabulate_append [] t t (λ k. false ∷ bits n k) (λ k. true ∷ bits n k) (bits (suc n))
    (λ k h. ap (λ (b : Bool). b ∷ bits n k) (sym (bit_low n k h)))
    (λ k h. ap₂ (λ (b : Bool) (l : List Bool). b ∷ l) (sym (bit_high n k h)) (sym (rw one-mul at (bits_shift n 1 k))))
    ∙ ap (λ (m : ℕ). tabulate m (bits (suc n))) double

-- ---- the truth table

-- the value under the assignment that a number stands for
abbrev pub value_at : List ℕ → Parsed → ℕ → Bool
value_at names p k = holds_of (look names (bits (length names) k)) p

pub truth_by_number : (names : List ℕ) (p : Parsed) → truth_of names p ≡ tabulate (2 ^ (length names)) (value_at names p)
unfolding truth_of
truth_by_number names p =
    ap (map (λ (a : List Bool). holds_of (look names a) p)) (assignments_bits (length names))
    ∙ map_tabulate (λ (a : List Bool). holds_of (look names a) p) (2 ^ (length names)) (bits (length names))
