-- Laws of sets of candidates as numbers: one inside another, the candidates of a set, a set with one candidate fewer, and the order of all.
use Rattle.meaning.proofs.Kit.{◌≡◌, ◌∙◌, sym, ap, refl, ⊎_elim, inl, inr, ◌⊎◌, ◌≢◌, true, false, Bool, cond, false≢true, List, [], ◌∷◌, map, In, here}
use Rattle.meaning.proofs.Kit.{there, in_nil, in_cons, ◌≤◌, ℕ, ◌<◌, ◌-◌, ◌+◌, suc, ◌*◌, zero, ◌/◌, ◌^◌, ◌%◌, zero-le, one-le-pow, arith, eqb, leb}
use Rattle.meaning.proofs.Kit.{length, get_or, ne_eqb, eq-eqb, le-leb, eqb-true, leb-true, eqb-false}
use native.Mathlib.Nat.{pow-suc}
use lib.Bits.{bit_and, and_step}
use Rattle.meaning.specs.Tests.{keep, none, odd, bit}
use Rattle.meaning.specs.BySize.{BySize, EachBefore}
use Rattle.candidates.specs.Sets.{chosen, size, inside, sets_of, sets_by_size, passing}
use Rattle.candidates.specs.Promises.{Inside, InsideSmaller, ChosenAre, InsideIs, SizeIs}
use Rattle.meaning.proofs.Tests.{true_or_false, both_true, and_intro, false_of, from_in, in_from}
use Rattle.meaning.proofs.Tables.{le_or_lt, Ahead, SmallestIs}
use Rattle.meaning.proofs.BySize.{below_size_of, below_size_in, below_size_each, from_rises}

-- ---- halves

-- half of a number below 2 ^ (n + 1) is below 2 ^ n
half_below : (n m : ℕ) → m < 2 ^ suc n → m / 2 < 2 ^ n
half_below n m h = let e = pow-suc 2 n in omega arith

below_double : (n m : ℕ) → m / 2 < 2 ^ n → m < 2 ^ suc n
below_double n m h = let e = pow-suc 2 n in omega arith

-- ---- one set inside another

no_bit : (i : ℕ) → bit i 0 ≡ true → ⊥
no_bit zero e = false≢true e
no_bit (suc i) e = no_bit i e

bitless : (k a : ℕ) → a ≤ k → ((i : ℕ) → bit i a ≡ true → ⊥) → a ≡ 0
bitless zero a l f = omega arith
bitless (suc k) a l f =
    let h = bitless k (a / 2) (omega arith) (λ i e. f (suc i) e) in
    let z : a % 2 ≢ 1 = λ e. f 0 (eq-eqb (a % 2) 1 e) in
    omega arith

-- the test says what the words say
pub inside_words : (n a b : ℕ) → a < 2 ^ n → inside n a b ≡ true → Inside a b
inside_words zero a b l e i h = let z : a ≡ 0 = omega arith in absurd (no_bit i (rw z at h))
inside_words (suc n) a b l e zero h =
    let r = both_true (leb (a % 2) (b % 2)) (inside n (a / 2) (b / 2)) e in
    let le = leb-true (a % 2) (b % 2) r.0 in
    let one = eqb-true (a % 2) 1 h in
    eq-eqb (b % 2) 1 (omega arith)
inside_words (suc n) a b l e (suc i) h =
    let r = both_true (leb (a % 2) (b % 2)) (inside n (a / 2) (b / 2)) e in
    inside_words n (a / 2) (b / 2) (half_below n a l) r.1 i h

-- of the lowest bit
low_bit : (a b : ℕ) → Inside a b → a % 2 ≤ b % 2
low_bit a b w =
    ⊎_elim (λ e. let o = eqb-true (b % 2) 1 (w 0 e) in omega arith) (λ e. let o : a % 2 ≢ 1 = eqb-false (a % 2) 1 e in omega arith)
    (true_or_false (eqb (a % 2) 1))

pub inside_of : (n a b : ℕ) → Inside a b → inside n a b ≡ true
inside_of zero a b w = refl
inside_of (suc n) a b w =
    and_intro (leb (a % 2) (b % 2)) (inside n (a / 2) (b / 2)) (le-leb (a % 2) (b % 2) (low_bit a b w))
    (inside_of n (a / 2) (b / 2) (λ i h. w (suc i) h))

-- a set inside another is as low a number as any set of those candidates
pub inside_below : (n a b : ℕ) → b < 2 ^ n → Inside a b → a < 2 ^ n
inside_below zero a b l w =
    let z : b ≡ 0 = omega arith in
    let e = bitless a a (omega arith) (λ i h. no_bit i (rw z at (w i h))) in
    omega arith
inside_below (suc n) a b l w = below_double n a (inside_below n (a / 2) (b / 2) (half_below n b l) (λ i h. w (suc i) h))

-- and if it is another set it is smaller, in size and as a number
pub inside_smaller : InsideSmaller
inside_smaller zero a b k l w d = absurd (d (omega arith))
inside_smaller (suc n) a b k l w d =
    go (true_or_false (eqb (a / 2) (b / 2))) (λ e. inside_smaller n (a / 2) (b / 2) (half_below n a k) (half_below n b l) (λ i h. w (suc i) h) e)
  where
    go : (eqb (a / 2) (b / 2) ≡ true) ⊎ (eqb (a / 2) (b / 2) ≡ false)
        → (a / 2 ≢ b / 2 → (size n (a / 2) < size n (b / 2)) × (a / 2 < b / 2)) → (size (suc n) a < size (suc n) b) × (a < b)
    go (inl e) f =
        let h = eqb-true (a / 2) (b / 2) e in
        let s = ap (size n) h in
        (omega (arith, low_bit a b w), omega (arith, low_bit a b w))
    go (inr e) f = let r = f (eqb-false (a / 2) (b / 2) e) in (omega (arith, low_bit a b w), omega (arith, low_bit a b w))

-- ---- the candidates of a set

-- one of a set's candidates is the first, or one of the later
chosen_cases : {A : Type 0} (d : A) (cands : List A) (m : ℕ) {c : A} → In c (chosen (d ∷ cands) m)
    → ((c ≡ d) × (odd m ≡ true)) ⊎ In c (chosen cands (m / 2))
chosen_cases d cands m {c} h = go (odd m) refl h
  where
    go : (b : Bool) → odd m ≡ b → In c (cond b (d ∷ chosen cands (m / 2)) (chosen cands (m / 2)))
        → ((c ≡ d) × (odd m ≡ true)) ⊎ In c (chosen cands (m / 2))
    go true e h = ⊎_elim (λ q. inl (q, e)) inr (in_cons h)
    go false e h = inr h

pub chosen_are : ChosenAre
chosen_are cands m c = (to cands m, λ x. back cands m x.0 x.1 x.2 x.3)
  where
    to : (cands : List ℕ) (m : ℕ) → In c (chosen cands m) → (i : ℕ) × (i < length cands) × (get_or cands i 0 ≡ c) × (bit i m ≡ true)
    to [] m h = absurd (in_nil h)
    to (d ∷ cands) m h =
        ⊎_elim (λ q. (0, omega arith, sym q.0, q.1))
        (λ q. let r = to cands (m / 2) q in (suc r.0, omega (arith, r.1), r.2, r.3)) (chosen_cases d cands m h)

    back : (cands : List ℕ) (m i : ℕ) → i < length cands → get_or cands i 0 ≡ c → bit i m ≡ true → In c (chosen cands m)
    back [] m i l g b = absurd (omega arith)
    back (d ∷ cands) m zero l g b = rw b (here (sym g))
    back (d ∷ cands) m (suc i) l g b = past (eqb (m % 2) 1) (back cands (m / 2) i (omega arith) g b)
      where
        past : (t : Bool) {l : List ℕ} → In c l → In c (cond t (d ∷ l) l)
        past true n = there n
        past false n = n

pub size_is : SizeIs
size_is [] m = refl
size_is (c ∷ cands) m = go (true_or_false (eqb (m % 2) 1)) (size_is cands (m / 2))
  where
    go : (eqb (m % 2) 1 ≡ true) ⊎ (eqb (m % 2) 1 ≡ false) → length (chosen cands (m / 2)) ≡ size (length cands) (m / 2)
        → length (chosen (c ∷ cands) m) ≡ size (suc (length cands)) m
    go (inl e) ih = rw e (let o = eqb-true (m % 2) 1 e in omega arith)
    go (inr e) ih = rw e (let o : m % 2 ≢ 1 = eqb-false (m % 2) 1 e in omega arith)

pub chosen_in : {A : Type 0} (cands : List A) (m : ℕ) {c : A} → In c (chosen cands m) → In c cands
chosen_in [] m h = h
chosen_in (d ∷ cands) m h = ⊎_elim (λ q. here q.0) (λ q. there (chosen_in cands (m / 2) q)) (chosen_cases d cands m h)

-- whatever the candidates are told by
pub chosen_map : {A B : Type 0} (f : A → B) (cands : List A) (m : ℕ) → chosen (map f cands) m ≡ map f (chosen cands m)
chosen_map f [] m = refl
chosen_map f (c ∷ cands) m = go (odd m) (chosen_map f cands (m / 2))
  where
    go : (b : Bool) → chosen (map f cands) (m / 2) ≡ map f (chosen cands (m / 2))
        → cond b (f c ∷ chosen (map f cands) (m / 2)) (chosen (map f cands) (m / 2))
        ≡ map f (cond b (c ∷ chosen cands (m / 2)) (chosen cands (m / 2)))
    go true e = ap (λ (xs : List _). f c ∷ xs) e
    go false e = e

-- a set inside another has no other candidates
pub chosen_inside : (cands : List ℕ) (a b : ℕ) → Inside a b → {c : ℕ} → In c (chosen cands a) → In c (chosen cands b)
chosen_inside cands a b w {c} m = let r = (chosen_are cands a c).0 m in (chosen_are cands b c).1 (r.0, r.1, r.2, w r.0 r.3)

-- a bit of a number below 2 ^ n is one of the lowest n
pub bit_below : (n i m : ℕ) → m < 2 ^ n → bit i m ≡ true → i < n
bit_below zero i m l e = let z : m ≡ 0 = omega arith in absurd (no_bit i (rw z at e))
bit_below (suc n) zero m l e = omega arith
bit_below (suc n) (suc i) m l e = omega (arith, bit_below n i (m / 2) (half_below n m l) e)

pub inside_is : InsideIs
inside_is cands a b apart l = (λ w c h. chosen_inside cands a b w h, back)
  where
    back : ((c : ℕ) → In c (chosen cands a) → In c (chosen cands b)) → Inside a b
    back f i e =
        let k = bit_below (length cands) i a l e in
        let r = (chosen_are cands b (get_or cands i 0)).0 (f (get_or cands i 0) ((chosen_are cands a (get_or cands i 0)).1 (i, k, refl, e))) in
        let q = apart r.0 i r.1 k r.2 in
        rw q at r.3

-- ---- one candidate fewer

-- what of a bit is seen in the halves
pub bit_low : (i m : ℕ) → bit i m ≡ true → 2 ^ i ≤ m
bit_low zero m e = let o = eqb-true (m % 2) 1 e in omega arith
bit_low (suc i) m e = let p = pow-suc 2 i in omega (arith, bit_low i (m / 2) e)

fewer_half : (i m : ℕ) → bit (suc i) m ≡ true → ((m - 2 ^ suc i) / 2 ≡ m / 2 - 2 ^ i) × ((m - 2 ^ suc i) % 2 ≡ m % 2)
fewer_half i m e = let p = pow-suc 2 i in let l = bit_low i (m / 2) e in (omega arith, omega arith)

pub fewer_inside : (i m : ℕ) → bit i m ≡ true → Inside (m - 2 ^ i) m
fewer_inside zero m e zero h = e
fewer_inside zero m e (suc j) h =
    let o = eqb-true (m % 2) 1 e in
    let q : (m - 2 ^ 0) / 2 ≡ m / 2 = omega arith in
    rw q at h
fewer_inside (suc i) m e zero h = let r = fewer_half i m e in rw r.1 at h
fewer_inside (suc i) m e (suc j) h = let r = fewer_half i m e in fewer_inside i (m / 2) e j (rw r.0 at h)

pub fewer_below : (i m : ℕ) → bit i m ≡ true → m - 2 ^ i < m
fewer_below i m e = let l = bit_low i m e in let k = one-le-pow i 2 (omega arith) in omega arith

pub fewer_differs : (i m : ℕ) → bit i m ≡ true → m - 2 ^ i ≢ m
fewer_differs i m e q = omega (arith, fewer_below i m e)

-- another set inside m leaves out one of its candidates
pub leaves_out : (n a m : ℕ) → a < 2 ^ n → m < 2 ^ n → Inside a m → a ≢ m → (i : ℕ) × (bit i m ≡ true) × Inside a (m - 2 ^ i)
leaves_out zero a m k l w d = absurd (d (omega arith))
leaves_out (suc n) a m k l w d =
    go (le_or_lt (m % 2) (a % 2)) (λ e. leaves_out n (a / 2) (m / 2) (half_below n a k) (half_below n m l) (λ i h. w (suc i) h) e)
  where
    go : (m % 2 ≤ a % 2) ⊎ (a % 2 < m % 2) → (a / 2 ≢ m / 2 → (i : ℕ) × (bit i (m / 2) ≡ true) × Inside (a / 2) (m / 2 - 2 ^ i))
        → (i : ℕ) × (bit i m ≡ true) × Inside a (m - 2 ^ i)
    go (inl e) ih = (suc r.0, r.1, there_in)
      where
        r : (i : ℕ) × (bit i (m / 2) ≡ true) × Inside (a / 2) (m / 2 - 2 ^ i)
        r = ih (omega (arith, low_bit a m w))

        there_in : Inside a (m - 2 ^ suc r.0)
        there_in zero h =
            let q = fewer_half r.0 m r.1 in
            eq-eqb ((m - 2 ^ suc r.0) % 2) 1 (omega (arith, low_bit a m w, q.1, eqb-true (a % 2) 1 h))
        there_in (suc j) h = let q = fewer_half r.0 m r.1 in rw q.0 (r.2 j h)
    go (inr e) ih = (0, eq-eqb (m % 2) 1 (omega arith), there_in)
      where
        there_in : Inside a (m - 2 ^ 0)
        there_in zero h = absurd (omega (arith, eqb-true (a % 2) 1 h))
        there_in (suc j) h =
            let q : (m - 2 ^ 0) / 2 ≡ m / 2 = omega arith in
            rw q (w (suc j) h)

-- ---- as code computes them: by a shift and a mask

pub size_none : (n : ℕ) → size n 0 ≡ 0
size_none zero = refl
size_none (suc n) = omega (arith, size_none n)

pub size_le : (n m : ℕ) → size n m ≤ n
size_le zero m = zero-le
size_le (suc n) m = omega (arith, size_le n (m / 2))

-- no candidate is in both
abbrev pub Apart : ℕ → ℕ → Type 0
Apart a b = (i : ℕ) → bit i a ≡ true → bit i b ≡ true → ⊥

pub and_apart : (a b : ℕ) → bit_and a b ≡ 0 → Apart a b
and_apart a b e zero p q =
    let s = and_step a b in
    omega (arith, eqb-true (a % 2) 1 p, eqb-true (b % 2) 1 q)
and_apart a b e (suc i) p q =
    let s = and_step a b in
    let half : bit_and (a / 2) (b / 2) ≡ 0 = omega arith in
    and_apart (a / 2) (b / 2) half i p q

-- ---- the candidates that pass a test

bit_small : (b : Bool) → cond b 1 0 ≤ 1
bit_small true = omega arith
bit_small false = omega arith

pub passing_below : (test : ℕ → Bool) (cands : List ℕ) → passing test cands < 2 ^ length cands
passing_below test [] = omega arith
passing_below test (c ∷ cands) = omega (arith, pow-suc 2 (length cands), bit_small (test c), passing_below test cands)

pub passing_chosen : (test : ℕ → Bool) (cands : List ℕ) → chosen cands (passing test cands) ≡ keep test cands
passing_chosen test [] = refl
passing_chosen test (c ∷ cands) = go (test c) (passing_chosen test cands)
  where
    x : ℕ
    x = passing test cands

    go : (b : Bool) → chosen cands x ≡ keep test cands → chosen (c ∷ cands) (cond b 1 0 + 2 * x) ≡ cond b (c ∷ keep test cands) (keep test cands)
    go true ih =
        let h : (1 + 2 * x) / 2 ≡ x = omega arith in
        let r : (1 + 2 * x) % 2 ≡ 1 = omega arith in
        rw (h, r, ih)
    go false ih =
        let h : (0 + 2 * x) / 2 ≡ x = omega arith in
        let r : (0 + 2 * x) % 2 ≡ 0 = omega arith in
        rw (h, r, ih)

pub passing_same : (f g : ℕ → Bool) (cands : List ℕ) → ((c : ℕ) → In c cands → f c ≡ g c) → passing f cands ≡ passing g cands
passing_same f g [] e = refl
passing_same f g (c ∷ cands) e = rw (e c (here refl), passing_same f g cands (λ d m. e d (there m)))

-- all pass: the highest number
pub passing_all : (cands : List ℕ) → suc (passing (λ c. true) cands) ≡ 2 ^ length cands
passing_all [] = refl
passing_all (c ∷ cands) = let e = pow-suc 2 (length cands) in omega (arith, passing_all cands)

pub passing_bit : (test : ℕ → Bool) (cands : List ℕ) (i : ℕ) → i < length cands → bit i (passing test cands) ≡ test (get_or cands i 0)
passing_bit test [] i l = absurd (omega arith)
passing_bit test (c ∷ cands) zero l = go (test c)
  where
    go : (b : Bool) → bit 0 (cond b 1 0 + 2 * passing test cands) ≡ b
    go true = eq-eqb ((1 + 2 * passing test cands) % 2) 1 (omega arith)
    go false = ne_eqb ((0 + 2 * passing test cands) % 2) 1 (λ e. omega arith)
passing_bit test (c ∷ cands) (suc i) l = ap (bit i) (omega (arith, bit_small (test c))) ∙ passing_bit test cands i (omega arith)

-- ---- those that pass a test, by size, then by number

module _ (n : ℕ) (test : ℕ → Bool) where
  pub by_size_of : (m : ℕ) → In m (sets_by_size n test) → (m < 2 ^ n) × (test m ≡ true)
  by_size_of m h =
      let r = below_size_of (size n) test (sets_of n) m (suc n) h in
      let b = from_in 0 (2 ^ n) m r.0 in
      (omega arith, r.1)

  pub by_size_in : (m : ℕ) → m < 2 ^ n → test m ≡ true → In m (sets_by_size n test)
  by_size_in m l e = below_size_in (size n) test (sets_of n) m (suc n) (in_from 0 (2 ^ n) m zero-le (omega arith)) e (omega (arith, size_le n m))

  pub by_size_each : EachBefore (BySize (size n) (λ a b. a < b)) (sets_by_size n test)
  by_size_each = below_size_each (size n) test (sets_of n) (λ a b. a < b) (from_rises 0 (2 ^ n)) (suc n)

  -- the first of them is the smallest, and of equal size the lowest
  pub first_set : SmallestIs test (size n) (2 ^ n) (get_or (sets_by_size n test) 0 none)
  first_set = go (sets_by_size n test) by_size_each by_size_of by_size_in
    where
      go : (l : List ℕ) → EachBefore (BySize (size n) (λ a b. a < b)) l → ((m : ℕ) → In m l → (m < 2 ^ n) × (test m ≡ true))
          → ((m : ℕ) → m < 2 ^ n → test m ≡ true → In m l) → SmallestIs test (size n) (2 ^ n) (get_or l 0 none)
      go [] o of in-it = inr (refl, λ i h. false_of (test i) (λ e. in_nil (in-it i h e)))
      go (m ∷ l) o of in-it =
          let own = of m (here refl) in
          inl (own.0, own.1, λ i h e. ⊎_elim (λ q. rw q (omega arith, λ s. omega arith)) (λ j. ahead (o.0 i j)) (in_cons (in-it i h e)))
        where
          ahead : {i : ℕ} → BySize (size n) (λ a b. a < b) m i → Ahead (size n) m i
          ahead (inl less) = (omega arith, λ s. omega arith)
          ahead (inr same) = (omega (arith, same.0), λ s. omega (arith, same.1))
