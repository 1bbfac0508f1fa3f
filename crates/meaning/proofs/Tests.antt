-- Laws of tests: of Booleans, and of `any`, `all`, `keep`, `member` and `from` over lists.
use Rattle.meaning.proofs.Kit.{◌≡◌, ◌∙◌, sym, ap, refl, ap₂, ⊎_elim, inl, inr, ◌⊎◌, ◌≢◌, true, false, Bool, cond, ◌&&◌, not, ◌||◌, false≢true}
use Rattle.meaning.proofs.Kit.{true≢false, or_assoc, List, [], ◌∷◌, ◌++◌, map, In, here, there, in_nil, in_cons, ◌≤◌, ℕ, ◌<◌, ◌+◌, suc, zero}
use Rattle.meaning.proofs.Kit.{arith, eqb, length, get_or, eq-eqb, eqb-true, eqb-false}
use mathlib.Core.Bool.{and_assoc}
use Rattle.meaning.specs.Tests.{any, all, keep, member, from}

-- ---- Booleans

-- a Boolean is true or false, with the equation kept
pub true_or_false : (b : Bool) → (b ≡ true) ⊎ (b ≡ false)
true_or_false true = inl refl
true_or_false false = inr refl

pub both_true : (a b : Bool) → a && b ≡ true → (a ≡ true) × (b ≡ true)
both_true true b e = (refl, e)
both_true false b e = absurd (false≢true e)

pub both_false : (a b : Bool) → (a || b) ≡ false → (a ≡ false) × (b ≡ false)
both_false true b e = absurd (false≢true (sym e))
both_false false b e = (refl, e)

pub and_intro : (a b : Bool) → a ≡ true → b ≡ true → a && b ≡ true
and_intro true b p q = q
and_intro false b p q = absurd (false≢true p)

pub one_true_lem : (a b : Bool) → a || b ≡ true → (a ≡ true) ⊎ (b ≡ true)
one_true_lem true b e = inl refl
one_true_lem false b e = inr e

pub or_left : (a b : Bool) → a ≡ true → a || b ≡ true
or_left true b p = refl
or_left false b p = absurd (false≢true p)

pub or_right : (a b : Bool) → b ≡ true → a || b ≡ true
or_right true b p = refl
or_right false b p = p

pub not_intro : (b : Bool) → b ≡ false → not b ≡ true
not_intro true e = absurd (true≢false e)
not_intro false e = refl

-- a Boolean that cannot be true is false
pub false_of : (b : Bool) → (b ≡ true → ⊥) → b ≡ false
false_of true h = absurd (h refl)
false_of false h = refl

pub clash : {X : Type 0} {b : Bool} → b ≡ true → b ≡ false → X
clash p q = absurd (true≢false (sym p ∙ q))

-- tests that imply each other are the same Boolean
pub same_test : (a b : Bool) → (a ≡ true → b ≡ true) → (b ≡ true → a ≡ true) → a ≡ b
same_test true b f g = sym (f refl)
same_test false true f g = g refl
same_test false false f g = refl

-- ---- some and every element

module _ {A : Type 0} where
  -- what stands at a place is in the list
  pub in_at : (xs : List A) (i : ℕ) (d : A) → i < length xs → In (get_or xs i d) xs
  in_at [] i d h = absurd (omega arith)
  in_at (x ∷ xs) zero d h = here refl
  in_at (x ∷ xs) (suc i) d h = there (in_at xs i d (omega arith))

  pub any_found : (f : A → Bool) (xs : List A) → any f xs ≡ true → (x : A) × In x xs × (f x ≡ true)
  any_found f [] e = absurd (false≢true e)
  any_found f (x ∷ xs) e = ⊎_elim (λ p. (x, here refl, p)) (λ p. let r = any_found f xs p in (r.0, there r.1, r.2)) (one_true_lem (f x) (any f xs) e)

  pub any_at : (f : A → Bool) {x : A} {xs : List A} → In x xs → f x ≡ true → any f xs ≡ true
  any_at f (here {x = y} {xs = ys} e) p = or_left (f y) (any f ys) (rw e at p)
  any_at f (there {x = y} {xs = ys} m) p = or_right (f y) (any f ys) (any_at f m p)

  pub all_at : (f : A → Bool) {x : A} {xs : List A} → all f xs ≡ true → In x xs → f x ≡ true
  all_at f h (here {x = y} {xs = ys} e) = rw e (both_true (f y) (all f ys) h).0
  all_at f h (there {x = y} {xs = ys} m) = all_at f (both_true (f y) (all f ys) h).1 m

  pub all_of : (f : A → Bool) (xs : List A) → ((x : A) → In x xs → f x ≡ true) → all f xs ≡ true
  all_of f [] h = refl
  all_of f (x ∷ xs) h = and_intro (f x) (all f xs) (h x (here refl)) (all_of f xs (λ y m. h y (there m)))

  -- every element passes, or here is one that does not
  pub all_or_not : (f : A → Bool) (xs : List A) → (all f xs ≡ true) ⊎ ((x : A) × In x xs × (f x ≡ false))
  all_or_not f [] = inl refl
  all_or_not f (x ∷ xs) = go (f x) refl (all_or_not f xs)
    where
      go : (b : Bool) → f x ≡ b → (all f xs ≡ true) ⊎ ((y : A) × In y xs × (f y ≡ false))
          → (all f (x ∷ xs) ≡ true) ⊎ ((y : A) × In y (x ∷ xs) × (f y ≡ false))
      go true e (inl h) = inl (and_intro (f x) (all f xs) e h)
      go true e (inr w) = inr (w.0, there w.1, w.2)
      go false e r = inr (x, here refl, e)

  -- where each element that passes one test passes another
  pub any_imp : (f g : A → Bool) (xs : List A) → ((x : A) → In x xs → f x ≡ true → g x ≡ true) → any f xs ≡ true → any g xs ≡ true
  any_imp f g xs h e = let r = any_found f xs e in any_at g r.1 (h r.0 r.1 r.2)

  pub all_imp : (f g : A → Bool) (xs : List A) → ((x : A) → In x xs → f x ≡ true → g x ≡ true) → all f xs ≡ true → all g xs ≡ true
  all_imp f g xs h e = all_of g xs (λ x m. h x m (all_at f e m))

  pub any_same : (f g : A → Bool) (xs : List A) → ((x : A) → In x xs → f x ≡ g x) → any f xs ≡ any g xs
  any_same f g [] h = refl
  any_same f g (x ∷ xs) h = ap₂ (λ (a b : Bool). a || b) (h x (here refl)) (any_same f g xs (λ y m. h y (there m)))

  pub all_same : (f g : A → Bool) (xs : List A) → ((x : A) → In x xs → f x ≡ g x) → all f xs ≡ all g xs
  all_same f g [] h = refl
  all_same f g (x ∷ xs) h = ap₂ (λ (a b : Bool). a && b) (h x (here refl)) (all_same f g xs (λ y m. h y (there m)))

  -- a test that nothing passes
  pub any_never : (xs : List A) → any (λ x. false) xs ≡ false
  any_never [] = refl
  any_never (x ∷ xs) = any_never xs

  -- some element fails the test just where not every one passes it
  pub any_not : (f : A → Bool) (xs : List A) → any (λ x. not (f x)) xs ≡ not (all f xs)
  any_not f [] = refl
  any_not f (x ∷ xs) = go (f x) (any_not f xs)
    where
      go : (b : Bool) → any (λ y. not (f y)) xs ≡ not (all f xs) → not b || any (λ y. not (f y)) xs ≡ not (b && all f xs)
      go true e = e
      go false e = refl

  pub any_append : (f : A → Bool) (xs ys : List A) → any f (xs ++ ys) ≡ (any f xs || any f ys)
  any_append f [] ys = refl
  any_append f (x ∷ xs) ys = ap (λ (b : Bool). f x || b) (any_append f xs ys) ∙ sym (or_assoc (f x) (any f xs) (any f ys))

  pub all_append : (f : A → Bool) (xs ys : List A) → all f (xs ++ ys) ≡ (all f xs && all f ys)
  all_append f [] ys = refl
  all_append f (x ∷ xs) ys = ap (λ (b : Bool). f x && b) (all_append f xs ys) ∙ sym (and_assoc (f x) (all f xs) (all f ys))

  -- ---- the elements that pass

  pub in_keep : (f : A → Bool) {x : A} {xs : List A} → In x xs → f x ≡ true → In x (keep f xs)
  in_keep f (here {x = y} {xs = ys} e) p = let q : f y ≡ true = rw e at p in rw q (here e)
  in_keep f (there {x = y} {xs = ys} m) p = past (f y) (in_keep f m p)
    where
      past : (b : Bool) {z : A} {l : List A} → In z l → In z (cond b (y ∷ l) l)
      past true n = there n
      past false n = n

  pub keep_in : (f : A → Bool) {x : A} (xs : List A) → In x (keep f xs) → In x xs × (f x ≡ true)
  keep_in f [] m = absurd (in_nil m)
  keep_in f {x} (y ∷ ys) m = go (f y) refl m (λ n. keep_in f ys n)
    where
      go : (b : Bool) → f y ≡ b → In x (cond b (y ∷ keep f ys) (keep f ys)) → (In x (keep f ys) → In x ys × (f x ≡ true))
          → In x (y ∷ ys) × (f x ≡ true)
      go true q n ih = ⊎_elim (λ e. (here e, rw e q)) (λ k. let r = ih k in (there r.0, r.1)) (in_cons n)
      go false q n ih = let r = ih n in (there r.0, r.1)

  pub keep_append : (f : A → Bool) (xs ys : List A) → keep f (xs ++ ys) ≡ keep f xs ++ keep f ys
  keep_append f [] ys = refl
  keep_append f (x ∷ xs) ys = go (f x) (keep_append f xs ys)
    where
      go : (b : Bool) → keep f (xs ++ ys) ≡ keep f xs ++ keep f ys
          → cond b (x ∷ keep f (xs ++ ys)) (keep f (xs ++ ys)) ≡ cond b (x ∷ keep f xs) (keep f xs) ++ keep f ys
      go true e = ap (λ (l : List A). x ∷ l) e
      go false e = e

  pub keep_same : (f g : A → Bool) (xs : List A) → ((x : A) → In x xs → f x ≡ g x) → keep f xs ≡ keep g xs
  keep_same f g [] h = refl
  keep_same f g (x ∷ xs) h = rw (h x (here refl), keep_same f g xs (λ y m. h y (there m)))

module _ {A B : Type 0} where
  pub any_map : (f : B → Bool) (g : A → B) (xs : List A) → any f (map g xs) ≡ any (λ x. f (g x)) xs
  any_map f g [] = refl
  any_map f g (x ∷ xs) = ap (λ (b : Bool). f (g x) || b) (any_map f g xs)

  pub all_map : (f : B → Bool) (g : A → B) (xs : List A) → all f (map g xs) ≡ all (λ x. f (g x)) xs
  all_map f g [] = refl
  all_map f g (x ∷ xs) = ap (λ (b : Bool). f (g x) && b) (all_map f g xs)

  pub map_same : (f g : A → B) (xs : List A) → ((x : A) → In x xs → f x ≡ g x) → map f xs ≡ map g xs
  map_same f g [] h = refl
  map_same f g (x ∷ xs) h = ap₂ (λ (a : B) (b : List B). a ∷ b) (h x (here refl)) (map_same f g xs (λ y m. h y (there m)))

-- ---- numbers in a list

pub member_in : (p : ℕ) (xs : List ℕ) → member p xs ≡ true → In p xs
member_in p xs e = let r = any_found (λ (q : ℕ). eqb q p) xs e in rw (sym (eqb-true r.0 p r.2)) r.1

pub in_member : {p : ℕ} {xs : List ℕ} → In p xs → member p xs ≡ true
in_member {p} m = any_at (λ (q : ℕ). eqb q p) m (eq-eqb p p refl)

pub from_in : (k n s : ℕ) → In s (from k n) → (k ≤ s) × (s < k + n)
from_in k zero s m = absurd (in_nil m)
from_in k (suc n) s m = ⊎_elim (λ (e : s ≡ k). omega arith) (λ h. let r = from_in (suc k) n s h in omega arith) (in_cons m)

pub in_from : (k n s : ℕ) → k ≤ s → s < k + n → In s (from k n)
in_from k zero s h g = absurd (omega arith)
in_from k (suc n) s h g =
    ⊎_elim (λ e. here (eqb-true s k e))
    (λ e. let d : s ≢ k = eqb-false s k e in there (in_from (suc k) n s (omega arith) (omega arith))) (true_or_false (eqb s k))
