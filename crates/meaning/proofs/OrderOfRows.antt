-- The rows of a rule stand in 01's order: fewer literals first, then by the first place that differs.
use Rattle.meaning.proofs.Kit.{◌≡◌, ◌∙◌, sym, refl, subst, ⊎_elim, inl, inr, true, false, Bool, not, List, [], ◌∷◌, ◌++◌, map, In, in_nil}
use Rattle.meaning.proofs.Kit.{in_of_map, in_append, ◌≤◌, ℕ, ◌<◌, suc, ◌*◌, arith, length}
use Rattle.meaning.specs.BySize.{BySize, EachBefore}
use Rattle.meaning.specs.Literals.{place}
use Rattle.meaning.specs.Formulae.{symbols_of, rule_of}
use Rattle.meaning.specs.Clauses.{Digit, denies, out, plus, minus, clauses, size, prime, primes_in_order, row_of, RowBefore, here, later, Precedes}
use Rattle.meaning.specs.Promises.{RowsInOrder}
use Rattle.meaning.proofs.BySize.{each_append, each_map, below_size_each}
use Rattle.meaning.proofs.Formulae.{Ascending, symbols_ascend}
use Rattle.meaning.proofs.Clauses.{clauses_length, length_row_of}
use Rattle.meaning.proofs.Order.{all_primes}

-- ---- clauses of as many literals, by their rows

-- a row's first literal is of a symbol above m
first_above : (m : ℕ) (ss : List ℕ) (v : List Digit) (k : ℕ) → Ascending m ss → length v ≡ length ss → size v ≡ suc k
    → (p : ℕ) × (r : List ℕ) × (row_of ss v ≡ p ∷ r) × (2 * m ≤ p)
first_above m ss [] k a l e = absurd (omega arith)
first_above m [] (d ∷ v) k a l e = absurd (omega arith)
first_above m (s ∷ ss) (denies false ∷ v) k a l e = (place s true, row_of ss v, refl, omega (arith, a.0))
first_above m (s ∷ ss) (denies true ∷ v) k a l e = (place s false, row_of ss v, refl, omega (arith, a.0))
first_above m (s ∷ ss) (out ∷ v) k a l e = let w = first_above s ss v k a.1 (omega arith) e in (w.0, w.1, w.2, omega (arith, a.0, w.3))

place_low : (m s : ℕ) (b : Bool) → m < s → place s b < 2 * s
place_low m s true h = omega arith
place_low m s false h = omega arith

abbrev pub Sorted : List ℕ → List Digit → List Digit → Type 0
Sorted ss u v = size u ≡ size v → RowBefore (row_of ss u) (row_of ss v)

-- each with the digit d in front
block : Digit → List (List Digit) → List (List Digit)
block d vs = map (λ (u : List Digit). d ∷ u) vs

-- one clause has the symbol s, and the other has not
module _ (m s : ℕ) (ss : List ℕ) (above : m < s) (rise : Ascending s ss) where
  missing : (x : Bool) (u v : List Digit) → length v ≡ length ss → Sorted (s ∷ ss) (denies x ∷ u) (out ∷ v)
  missing x u v l e =
      let w = first_above s ss v (size u) rise l (sym e) in
      subst (RowBefore (place s (not x) ∷ row_of ss u)) (sym w.2) (here (omega (arith, place_low m s (not x) above, w.3)))

  -- a clause of one block and a clause of a later one
  between : (d e : Digit) → ((u v : List Digit) → length v ≡ length ss → Sorted (s ∷ ss) (d ∷ u) (e ∷ v)) → (x y : List Digit)
      → In x (block d (clauses (length ss))) → In y (block e (clauses (length ss))) → Sorted (s ∷ ss) x y
  unfolding block
  between d e f x y m k =
      let v = in_of_map (λ (t : List Digit). d ∷ t) (clauses (length ss)) m in
      let w = in_of_map (λ (t : List Digit). e ∷ t) (clauses (length ss)) k in
      subst (λ (z : List Digit). Sorted (s ∷ ss) z y) v.2
      (subst (λ (z : List Digit). Sorted (s ∷ ss) (d ∷ v.0) z) w.2 (f v.0 w.0 (clauses_length (length ss) w.0 w.1)))

  same_sign : (x : Bool) (u v : List Digit) → Sorted ss u v → Sorted (s ∷ ss) (denies x ∷ u) (denies x ∷ v)
  same_sign x u v f e = later (f (omega arith))

pub clauses_each : (m : ℕ) (ss : List ℕ) → Ascending m ss → EachBefore (Sorted ss) (clauses (length ss))
unfolding block
clauses_each m [] a = (λ u h. absurd (in_nil h), tt)
clauses_each m (s ∷ ss) a =
    let vs = clauses (length ss) in
    let S = Sorted (s ∷ ss) in
    let within : (d : Digit) → ((u v : List Digit) → Sorted ss u v → S (d ∷ u) (d ∷ v)) → EachBefore S (block d vs) =
    λ d f. each_map (Sorted ss) S (λ (u : List Digit). d ∷ u) vs (λ u v h k. f u v) (clauses_each s ss a.1) in
    let signs : (u v : List Digit) → length v ≡ length ss
    → S (plus ∷ u) (minus ∷ v) = λ u v l e. here {p = place s true} {q = place s false} (omega arith) in
    let cross = between m s ss a.0 a.1 in
    let gone = missing m s ss a.0 a.1 in
    let same = same_sign m s ss a.0 a.1 in
    each_append S (block plus vs) (block minus vs ++ block out vs) (within plus (same false))
    (each_append S (block minus vs) (block out vs) (within minus (same true)) (within out (λ u v f. f)) (cross minus out (gone true)))
    (λ x y h k. ⊎_elim (cross plus minus signs x y h) (cross plus out (gone false) x y h) (in_append (block minus vs) k))

-- ---- the prime implicates

-- a row is as long as its clause has literals
row_precedes : (ss : List ℕ) (u v : List Digit) → length u ≡ length ss → length v ≡ length ss → BySize size (Sorted ss) u v
    → Precedes (row_of ss u) (row_of ss v)
row_precedes ss u v a b h =
    let p = length_row_of ss u (omega arith) in
    let q = length_row_of ss v (omega arith) in
    ⊎_elim (λ l. inl (omega (arith, p, q, l))) (λ w. inr (p ∙ w.0 ∙ sym q, w.1 w.0)) h

pub rows_in_order : RowsInOrder
rows_in_order S f =
    let ss = symbols_of S f in
    let n = length ss in
    let sat = (rule_of S f).accepts in
    each_map (BySize size (Sorted ss)) Precedes (row_of ss) (primes_in_order sat n)
    (λ u v m k. row_precedes ss u v ((all_primes sat n u).0 m).0 ((all_primes sat n v).0 k).0)
    (below_size_each size (prime sat) (clauses n) (Sorted ss) (clauses_each 0 ss (symbols_ascend S f)) (suc n))
