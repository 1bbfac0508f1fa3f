-- Laws of leaving out one literal, symbol by symbol from the last on, and of primality by a table of hits.
use Rattle.meaning.proofs.Kit.{◌≡◌, ◌∙◌, sym, ap, refl, ap₂, true, false, Bool, ◌&&◌, not, List, [], ◌∷◌, ◌++◌, ◌≤◌, ℕ, ◌<◌, ◌-◌, ◌+◌, suc, ◌*◌, zero}
use Rattle.meaning.proofs.Kit.{◌^◌, ◌%◌, one-mul, arith, length, get_or, drop, take, length-append, length-drop, length-take, take-append-drop}
use Rattle.meaning.proofs.Kit.{append_snoc}
use native.Mathlib.Nat.{zero-mul}
use Rattle.meaning.specs.Clauses.{Digit, denies, out, hit, prime, lone}
use Rattle.meaning.proofs.Tests.{both_true, clash, false_of}
use Rattle.meaning.proofs.Primes.{lone_same, prime_lone}
use Rattle.implicates.specs.Numbers.{weigh, number, clause_at}
use Rattle.implicates.specs.Hits.{marked, prime_in}
use Rattle.implicates.proofs.Numbers.{number_below, length_clause_at, number_clause_at}
use Rattle.implicates.proofs.Digits.{Turn, number_append, digit_of, take_turn, drop_turn, digit, is_literal, is_out}

-- the test passes at each clause made by leaving out one literal of a symbol after the k-th
abbrev passed : (List Digit → Bool) → List Digit → ℕ → Bool
passed p v k = lone (λ u. p (take k v ++ u)) (drop k v)

-- each of those of the clause numbered c is hit
abbrev pub hits_after : List Bool → (n c k : ℕ) → Bool
hits_after hits n c k = passed (marked hits) (clause_at n c) k

lone_passed : (p : List Digit → Bool) (v : List Digit) (k : ℕ) → lone p v ≡ true → passed p v k ≡ true
lone_passed p v zero h = h
lone_passed p [] (suc k) h = refl
lone_passed p (out ∷ v) (suc k) h = lone_passed (λ u. p (out ∷ u)) v k h
lone_passed p (denies x ∷ v) (suc k) h = lone_passed (λ u. p (denies x ∷ u)) v k (both_true (p (out ∷ v)) (lone (λ u. p (denies x ∷ u)) v) h).1

-- a test is asked of a literal only
abbrev asked : Digit → Bool → Bool
asked (denies x) b = b
asked out b = true

lone_first : (p : List Digit → Bool) (a : List Digit) (d : Digit) (s : List Digit)
    → lone (λ u. p (a ++ u)) (d ∷ s) ≡ (asked d (p (a ++ (out ∷ s))) && lone (λ u. p (a ++ (d ∷ []) ++ u)) s)
lone_first p a out s = simp append_snoc
lone_first p a (denies x) s = simp append_snoc

-- a clause's number once a digit is 2
number_out : (a : List Digit) (d : Digit) (s : List Digit) → number (a ++ (d ∷ s)) + (2 - weigh d 1) * 3 ^ length s ≡ number (a ++ (out ∷ s))
number_out a d s = rw (number_append a (d ∷ s), number_append a (out ∷ s)) (omega (arith, fill d (3 ^ length s)))
  where
    fill : (e : Digit) (w : ℕ) → weigh e w + (2 - weigh e 1) * w ≡ 2 * w
    fill (denies false) w = omega arith
    fill (denies true) w = omega (arith, one-mul w)
    fill out w = omega (arith, zero-mul w)

-- the clause without the k-th symbol
abbrev without : List Digit → ℕ → List Digit
without v k = take (k - 1) v ++ (out ∷ drop k v)

-- a turn of the loop that tries the k-th symbol, whose digit has this weight
module _ {n c rest k weight : ℕ} (t : Turn n c rest k) (ew : weight ≡ 3 ^ (n - k)) where
  number_without : c + (2 - rest % 3) * weight ≡ number (without (clause_at n c) k)
  number_without =
      let v = clause_at n c in
      let l : length (drop k v) ≡ n - k = length-drop k v ∙ ap (λ (x : ℕ). x - k) (length_clause_at n c) in
      let whole = ap number (sym (take-append-drop (k - 1) v) ∙ ap (λ (u : List Digit). take (k - 1) v ++ u) (drop_turn t)) in
      rw (digit t, ew, ← l) (omega (arith, whole, number_clause_at n c t.known, number_out (take (k - 1) v) (digit_of v k) (drop k v)))

  pub without_below : c + (2 - rest % 3) * weight < 3 ^ n
  without_below =
      let v = clause_at n c in
      let l : length (without v k) ≡ n = simp (length-append, length-take, length-drop) (omega (arith, length_clause_at n c)) in
      omega (arith, number_without, number_below (without v k), ap (λ (x : ℕ). 3 ^ x) l)

  pub next_weight : weight * 3 ≡ 3 ^ (n - (k - 1))
  next_weight = let e : n - (k - 1) ≡ suc (n - k) = omega arith in rw (e, ew) (omega arith)

  module _ (hits : List Bool) where
    next_hits : hits_after hits n c (k - 1)
        ≡ (asked (digit_of (clause_at n c) k) (get_or hits (c + (2 - rest % 3) * weight) false) && hits_after hits n c k)
    next_hits =
        let v = clause_at n c in
        ap (lone (λ u. marked hits (take (k - 1) v ++ u))) (drop_turn t)
        ∙ lone_first (marked hits) (take (k - 1) v) (digit_of v k) (drop k v)
        ∙ ap₂ (λ (x : ℕ) (a : List Digit). asked (digit_of v k) (get_or hits x false) && lone (λ u. marked hits (a ++ u)) (drop k v))
        (sym number_without) (sym (take_turn t))

    next_literal : rest % 3 < 2 → hits_after hits n c (k - 1) ≡ (get_or hits (c + (2 - rest % 3) * weight) false && hits_after hits n c k)
    next_literal l = next_hits ∙ rw (is_literal t l)

    pub next_out_lem : 2 ≤ rest % 3 → hits_after hits n c (k - 1) ≡ hits_after hits n c k
    next_out_lem l = next_hits ∙ rw (is_out t l)

    -- the clause without the k-th symbol is hit, or it is not
    pub found : rest % 3 < 2 → get_or hits (c + (2 - rest % 3) * weight) false ≡ true → hits_after hits n c k ≡ true → hits_after hits n c (k - 1) ≡ true
    found l e q = next_literal l ∙ ap₂ ◌&&◌ e q

    pub missed : rest % 3 < 2 → get_or hits (c + (2 - rest % 3) * weight) false ≡ false → false ≡ lone (marked hits) (clause_at n c)
    missed l e = sym (false_of _ (λ q. clash (lone_passed (marked hits) (clause_at n c) (k - 1) q) (next_literal l ∙ rw e)))

-- a clause that is hit is not prime, and of any other its shorter clauses decide
pub prime_at : (hits : List Bool) (n c : ℕ) → c < 3 ^ n → (not (get_or hits c false) && lone (marked hits) (clause_at n c)) ≡ prime_in hits (clause_at n c)
prime_at hits n c h = rw (number_clause_at n c h)

-- a clause without one of its literals has a larger number, so tests that agree from a clause's number on agree on those
lone_ahead : (p q : List Digit → Bool) (v : List Digit) → ((u : List Digit) → length u ≡ length v → number v ≤ number u → p u ≡ q u)
    → lone p v ≡ lone q v
lone_ahead p q [] e = refl
lone_ahead p q (out ∷ v) e =
    lone_ahead (λ u. p (out ∷ u)) (λ u. q (out ∷ u)) v (λ u l h. e (out ∷ u) (ap suc l) (omega (arith, ap (λ (x : ℕ). 3 ^ x) l)))
lone_ahead p q (denies x ∷ v) e =
    let w : ℕ → ℕ = λ j. weigh (denies x) (3 ^ j) in
    ap₂ ◌&&◌ (e (out ∷ v) refl (omega (arith, number_out [] (denies x) v)))
    (lone_ahead (λ u. p (denies x ∷ u)) (λ u. q (denies x ∷ u)) v (λ u l h. e (denies x ∷ u) (ap suc l) (omega (arith, ap w l))))

-- and so tables that agree from the number c on tell the same of its clause
pub prime_in_ahead : (table hits : List Bool) (n c : ℕ) → c < 3 ^ n → ((i : ℕ) → c ≤ i → get_or table i false ≡ get_or hits i false)
    → prime_in table (clause_at n c) ≡ prime_in hits (clause_at n c)
prime_in_ahead table hits n c h same =
    let e = number_clause_at n c h in
    ap₂ (λ (a b : Bool). not a && b) (same (number (clause_at n c)) (omega arith))
    (lone_ahead (marked table) (marked hits) (clause_at n c) (λ u l k. same (number u) (omega arith)))

-- a table of the rule's hits says which clauses are its prime implicates
pub prime_in_prime : (sat : List Bool → Bool) (n : ℕ) (hits : List Bool) → ((v : List Digit) → length v ≡ n → marked hits v ≡ hit sat v)
    → (v : List Digit) → length v ≡ n → prime_in hits v ≡ prime sat v
prime_in_prime sat n hits t v l =
    ap₂ (λ (a b : Bool). not a && b) (t v l) (lone_same (marked hits) (hit sat) v (λ u m. t u (m ∙ l))) ∙ sym (prime_lone sat v)
