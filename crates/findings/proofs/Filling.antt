-- Writing a list place by place from the front.
use Rattle.meaning.proofs.Kit.{◌≡◌, ◌∙◌, ap, refl, List, ◌∷◌, ◌≤◌, ℕ, ◌<◌, ◌+◌, ◌*◌, suc, zero, ltb, not-suc-le-zero, le_of_suc-le-suc, arith, length, get_or}
use Rattle.meaning.proofs.Kit.{take, replicate, set, length-set, length-replicate, get_or-set_other, below_none}
use Rattle.meaning.specs.Tests.{tabulate, none}
use Rattle.meaning.specs.Rounds.{label_of}
use Rattle.meaning.proofs.Tables.{tabulate_ext, filled_more}

-- the places below p have the values of f, the others what they had first
pub record Filled {A : Type 0} (d : A) (f : ℕ → A) (first : List A) (p : ℕ) (l : List A) : Type 0 where
  pub long : length l ≡ length first
  pub passed : (i : ℕ) → i < p → get_or l i d ≡ f i
  ahead : (i : ℕ) → p ≤ i → get_or l i d ≡ get_or first i d

module _ {A : Type 0} {d : A} {f : ℕ → A} {first : List A} where
  pub filled_none : Filled d f first 0 first
  filled_none = record { long = refl; passed = below_none _; ahead = λ i h. refl }

  module _ {p : ℕ} {l : List A} (w : Filled d f first p l) where
    -- place p is written
    pub filled_put : (v : A) → p < length first → v ≡ f p → Filled d f first (p + 1) (set l p v)
    filled_put v h e =
        record {
          long = length-set l p v ∙ w.long;
          passed = filled_more d f l p v (omega (arith, w.long)) w.passed e;
          ahead = λ i b. get_or-set_other l p i v d (λ z. omega (arith, z)) ∙ w.ahead i (omega arith);
        }

    -- a place that is not passed has what it had
    pub filled_ahead : get_or l p d ≡ get_or first p d
    filled_ahead = w.ahead p (omega arith)

    pub filled_all : (n : ℕ) → length first ≡ n → n ≤ p → l ≡ tabulate n f
    filled_all n e h = tabulate_ext d n f l (w.long ∙ e) (λ i b. w.passed i (omega arith))

-- the label of symbol i + 1
abbrev pub symbol_label : List ℕ → ℕ → ℕ
symbol_label ranks i = label_of (ltb (get_or ranks (2 * i) none) none) (ltb (get_or ranks (2 * i + 1) none) none)

-- ---- the front of an array that was made of one value

pub part_same : {A : Type 0} (n big : ℕ) (v : A) → n ≤ big → take n (replicate big v) ≡ replicate n v
part_same zero big v h = refl
part_same (suc n) zero v h = absurd (not-suc-le-zero h)
part_same (suc n) (suc big) v h = ap (λ l. v ∷ l) (part_same n big v (le_of_suc-le-suc h))

pub part_long : {A : Type 0} (n big : ℕ) (v : A) → n ≤ big → length (take n (replicate big v)) ≡ n
part_long n big v h = ap length (part_same n big v h) ∙ length-replicate n v
