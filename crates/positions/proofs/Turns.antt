-- Going through the numbers below n, one at a time: those from i on; and what is made of each of them.
use Rattle.meaning.proofs.Kit.{◌≡◌, ◌∙◌, sym, ap, refl, List, [], ◌∷◌, map, In, in_of_map, in_map, ◌≤◌, ℕ, ◌<◌, ◌-◌, ◌+◌, suc, zero, add-one}
use Rattle.meaning.proofs.Kit.{arith, length, take, replicate, length-map}
use Rattle.meaning.specs.Tests.{from}
use Rattle.meaning.proofs.Tests.{from_in, in_from}
use Rattle.meaning.proofs.BySize.{length_from}

pub next_of : (i n : ℕ) → i < n → from i (n - i) ≡ i ∷ from (i + 1) (n - (i + 1))
next_of i n h = let e : n - i ≡ suc (n - (i + 1)) = omega arith in rw (e, add-one)

pub none_left : (i n : ℕ) → n ≤ i → from i (n - i) ≡ []
none_left i n h = let e : n - i ≡ 0 = omega arith in ap (from i) e

pub all_left : (n : ℕ) → from 0 n ≡ from 0 (n - 0)
all_left n = let e : n ≡ n - 0 = omega arith in ap (from 0) e

-- what is made of each number below n
module _ {A : Type 0} (f : ℕ → A) (n : ℕ) where
  pub in_made : (i : ℕ) → i < n → In (f i) (map f (from 0 n))
  in_made i l = in_map f (in_from 0 n i (omega arith) (omega arith))

  pub made_in : {x : A} → In x (map f (from 0 n)) → (i : ℕ) × (i < n) × (x ≡ f i)
  made_in m =
      let r = in_of_map f (from 0 n) m in
      let b = from_in 0 n r.0 r.1 in
      (r.0, omega arith, sym r.2)

  pub length_made : length (map f (from 0 n)) ≡ n
  length_made = length-map (from 0 n) f ∙ length_from 0 n

-- the first n of m that are all the same
pub take_same : {A : Type 0} (n m : ℕ) (a : A) → n ≤ m → take n (replicate m a) ≡ replicate n a
take_same zero m a h = refl
take_same (suc n) zero a h = absurd (omega arith)
take_same (suc n) (suc m) a h = ap (λ (l : List _). a ∷ l) (take_same n m a (omega arith))
