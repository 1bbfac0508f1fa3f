-- Lists in order: by size, and as each element stands to every later one.
use Rattle.meaning.proofs.Kit.{◌≡◌, ◌∙◌, sym, ap, refl, subst, ap₂, ⊎_elim, inl, inr, true, false, Bool, cond, ◌&&◌, and-false, List, []}
use Rattle.meaning.proofs.Kit.{◌∷◌, ◌++◌, map, In, here, there, in_nil, in_of_map, in_append_left, in_append_right, in_append, ◌≤◌, ℕ}
use Rattle.meaning.proofs.Kit.{◌<◌, ◌+◌, suc, zero, add-one, arith, eqb, ltb, length, get_or, drop, take, length-append, take-append-drop}
use Rattle.meaning.proofs.Kit.{take-suc, ne_eqb, eq-eqb, eqb-true, ltb-true, lt-ltb, le-ltb, eqb-false, ltb-false}
use Rattle.meaning.specs.Tests.{keep, from}
use Rattle.meaning.specs.BySize.{of_size, below_size, BySize, EachBefore}
use Rattle.meaning.proofs.Tests.{both_true, and_intro, in_keep, keep_in, keep_append, keep_same, from_in}
use Rattle.meaning.proofs.Tables.{le_or_lt}

-- ---- as each element stands to every later one

module _ {A : Type 0} (R : A → A → Type 0) where
  pub each_append : (xs ys : List A) → EachBefore R xs → EachBefore R ys → ((x y : A) → In x xs → In y ys → R x y) → EachBefore R (xs ++ ys)
  each_append [] ys a b f = b
  each_append (x ∷ xs) ys a b f =
      (λ u m. ⊎_elim (a.0 u) (f x u (here refl)) (in_append xs m), each_append xs ys a.1 b (λ y z m k. f y z (there m) k))

  each_keep : (test : A → Bool) (xs : List A) → EachBefore R xs → EachBefore R (keep test xs)
  each_keep test [] a = tt
  each_keep test (x ∷ xs) a = go (test x) (each_keep test xs a.1)
    where
      go : (b : Bool) → EachBefore R (keep test xs) → EachBefore R (cond b (x ∷ keep test xs) (keep test xs))
      go true r = (λ u m. a.0 u (keep_in test xs m).0, r)
      go false r = r

-- with what is known of the elements
pub each_with : {A : Type 0} (R S : A → A → Type 0) (xs : List A) → ((x y : A) → In x xs → In y xs → R x y → S x y) → EachBefore R xs
    → EachBefore S xs
each_with R S [] f a = tt
each_with R S (x ∷ xs) f a = (λ u m. f x u (here refl) (there m) (a.0 u m), each_with R S xs (λ y z m k. f y z (there m) (there k)) a.1)

-- and of what is made of them
pub each_map : {A B : Type 0} (R : A → A → Type 0) (S : B → B → Type 0) (f : A → B) (xs : List A)
    → ((x y : A) → In x xs → In y xs → R x y → S (f x) (f y)) → EachBefore R xs → EachBefore S (map f xs)
each_map R S f [] g a = tt
each_map R S f (x ∷ xs) g a = (
  λ u m. let w = in_of_map f xs m in subst (S (f x)) w.2 (g x w.0 (here refl) (there w.1) (a.0 w.0 w.1)),
  each_map R S f xs (λ y z m k. g y z (there m) (there k)) a.1,
)

-- ---- the n numbers from k on

pub length_from : (k n : ℕ) → length (from k n) ≡ n
length_from k zero = refl
length_from k (suc n) = ap suc (length_from (suc k) n)

pub from_rises : (k n : ℕ) → EachBefore (λ a b. a < b) (from k n)
from_rises k zero = tt
from_rises k (suc n) = (λ b m. omega (arith, (from_in (suc k) n b m).0), from_rises (suc k) n)

pub from_at : (k n i : ℕ) → i < n → get_or (from k n) i 0 ≡ k + i
from_at k zero i l = absurd (omega arith)
from_at k (suc n) zero l = omega arith
from_at k (suc n) (suc i) l = from_at (suc k) n i (omega arith) ∙ omega arith

-- ---- how many pass a test

abbrev pub tally : Bool → ℕ
tally b = cond b 1 0

module _ {A : Type 0} where
  pub keep_tally : (f : A → Bool) (x : A) (xs : List A) → length (keep f (x ∷ xs)) ≡ tally (f x) + length (keep f xs)
  keep_tally f x xs = go (f x)
    where
      go : (b : Bool) → length (cond b (x ∷ keep f xs) (keep f xs)) ≡ tally b + length (keep f xs)
      go true = omega arith
      go false = omega arith

  keep_none : (f : A → Bool) → ((x : A) → f x ≡ false) → (xs : List A) → length (keep f xs) ≡ 0
  keep_none f e [] = refl
  keep_none f e (x ∷ xs) = omega (arith, keep_tally f x xs, ap tally (e x), keep_none f e xs)

  pub keep_le : (f : A → Bool) (xs : List A) → length (keep f xs) ≤ length xs
  keep_le f [] = omega arith
  keep_le f (x ∷ xs) = omega (arith, keep_tally f x xs, few (f x), keep_le f xs)
    where
      few : (b : Bool) → tally b ≤ 1
      few true = omega arith
      few false = omega arith

  -- a test that is one of two others, never both
  keep_split : (f g h : A → Bool) → ((x : A) → tally (f x) + tally (g x) ≡ tally (h x)) → (xs : List A)
      → length (keep f xs) + length (keep g xs) ≡ length (keep h xs)
  keep_split f g h e [] = refl
  keep_split f g h e (x ∷ xs) = omega (arith, keep_tally f x xs, keep_tally g x xs, keep_tally h x xs, e x, keep_split f g h e xs)

  -- one turn of a loop that counts
  pub count_turn : (f : A → Bool) (xs : List A) (c : ℕ) (d : A) → c < length xs
      → length (keep f (take (c + 1) xs)) ≡ length (keep f (take c xs)) + tally (f (get_or xs c d))
  count_turn f xs c d h =
      ap (λ (j : ℕ). length (keep f (take j xs))) (add-one c)
      ∙ ap (λ (ys : List A). length (keep f ys)) (take-suc xs c d h)
      ∙ ap length (keep_append f (take c xs) (get_or xs c d ∷ []))
      ∙ length-append (keep f (take c xs)) (keep f (get_or xs c d ∷ []))
      ∙ ap (λ (x : ℕ). length (keep f (take c xs)) + x) (keep_tally f (get_or xs c d) [] ∙ omega arith)

tally_split : (m k : ℕ) (b : Bool) → tally (ltb m k && b) + tally (eqb m k && b) ≡ tally (ltb m (suc k) && b)
tally_split m k b = go (ltb m k) refl (eqb m k) refl
  where
    go : (s : Bool) → ltb m k ≡ s → (t : Bool) → eqb m k ≡ t → tally (ltb m k && b) + tally (eqb m k && b) ≡ tally (ltb m (suc k) && b)
    go true e true f = absurd (omega (arith, ltb-true m k e, eqb-true m k f))
    go true e false f = rw (e, f, lt-ltb m (suc k) (omega (arith, ltb-true m k e))) (omega arith)
    go false e true f = rw (e, f, lt-ltb m (suc k) (omega (arith, eqb-true m k f))) (omega arith)
    go false e false f = rw (e, f, le-ltb m (suc k) (above (ltb-false m k e) (eqb-false m k f))) (omega arith)
      where
        above : k ≤ m → (m ≡ k → ⊥) → suc k ≤ m
        above a n = omega arith

-- ---- by size

module _ {A : Type 0} (size : A → ℕ) (test : A → Bool) (xs : List A) where
  -- what is known of an element of size k in the list
  pub of_size_of : (x : A) (k : ℕ) → In x (of_size size test xs k) → In x xs × (test x ≡ true) × (size x ≡ k)
  unfolding of_size
  of_size_of x k m =
      let w = keep_in (λ (y : A). eqb (size y) k && test y) xs m in
      let r = both_true (eqb (size x) k) (test x) w.1 in
      (w.0, r.1, eqb-true (size x) k r.0)

  pub below_size_of : (x : A) (k : ℕ) → In x (below_size size test xs k) → In x xs × (test x ≡ true) × (size x < k)
  below_size_of x zero m = absurd (in_nil m)
  below_size_of x (suc k) m =
      ⊎_elim (λ h. let r = below_size_of x k h in (r.0, r.1, omega (arith, r.2)))
      (λ h. let r = of_size_of x k h in (r.0, r.1, omega (arith, r.2)))
      (in_append (below_size size test xs k) m)

  -- one that passes the test is there
  of_size_in : (x : A) → In x xs → test x ≡ true → In x (of_size size test xs (size x))
  unfolding of_size
  of_size_in x m h = in_keep (λ y. eqb (size y) (size x) && test y) m (and_intro (eqb (size x) (size x)) (test x) (eq-eqb (size x) (size x) refl) h)

  pub below_size_in : (x : A) (k : ℕ) → In x xs → test x ≡ true → size x < k → In x (below_size size test xs k)
  below_size_in x zero m h l = absurd (omega arith)
  below_size_in x (suc k) m h l =
      ⊎_elim
      (λ (g : k ≤ size x). let q : size x ≡ k = omega arith in
      in_append_right (below_size size test xs k) (subst (λ (j : ℕ). In x (of_size size test xs j)) q (of_size_in x m h)))
      (λ g. in_append_left (of_size size test xs k) (below_size_in x k m h g)) (le_or_lt k (size x))

  -- the list stands by size, and of one size as it stood
  of_size_each : (R : A → A → Type 0) → EachBefore R xs → (k : ℕ) → EachBefore (BySize size R) (of_size size test xs k)
  of_size_each R c k =
      each_with R (BySize size R) (of_size size test xs k) (λ x y m l h. inr ((of_size_of x k m).2 ∙ sym (of_size_of y k l).2, h))
      (unfold of_size in each_keep R (λ x. eqb (size x) k && test x) xs c)

  pub below_size_each : (R : A → A → Type 0) → EachBefore R xs → (k : ℕ) → EachBefore (BySize size R) (below_size size test xs k)
  below_size_each R c zero = tt
  below_size_each R c (suc k) =
      each_append (BySize size R) (below_size size test xs k) (of_size size test xs k) (below_size_each R c k) (of_size_each R c k)
      (λ x y m l. inl (omega (arith, (below_size_of x k m).2, (of_size_of y k l).2)))

  -- as many as pass the test
  below_count : (k : ℕ) → length (below_size size test xs k) ≡ length (keep (λ x. ltb (size x) k && test x) xs)
  unfolding of_size
  below_count zero = sym (keep_none (λ x. ltb (size x) 0 && test x) (λ x. ap (λ (b : Bool). b && test x) (le-ltb (size x) 0 (omega arith))) xs)
  below_count (suc k) =
      length-append (below_size size test xs k) (of_size size test xs k)
      ∙ ap (λ (n : ℕ). n + length (of_size size test xs k)) (below_count k)
      ∙ keep_split (λ x. ltb (size x) k && test x) (λ x. eqb (size x) k && test x) (λ x. ltb (size x) (suc k) && test x)
      (λ x. tally_split (size x) k (test x)) xs

  pub all_count : (k : ℕ) → ((x : A) → In x xs → size x < k) → length (below_size size test xs k) ≡ length (keep test xs)
  all_count k small =
      below_count k
      ∙ ap length
      (keep_same (λ x. ltb (size x) k && test x) test xs (λ x m. ap (λ (b : Bool). b && test x) (lt-ltb (size x) k (small x m))))

  -- ---- as loops over the sizes, and over the list, find them

  pub below_size_le : (j k : ℕ) → j ≤ k → length (below_size size test xs j) ≤ length (below_size size test xs k)
  below_size_le j zero h = let e : j ≡ 0 = omega arith in rw e (omega arith)
  below_size_le j (suc k) h =
      ⊎_elim (λ l. omega (arith, below_size_le j k l, length-append (below_size size test xs k) (of_size size test xs k)))
      (λ (l : k < j). let q : j ≡ suc k = omega arith in rw q (omega arith)) (le_or_lt j k)

  pub of_size_more : (k c : ℕ) (d : A) → c < length xs
      → of_size size test (take (c + 1) xs) k ≡ of_size size test (take c xs) k ++ of_size size test (get_or xs c d ∷ []) k
  unfolding of_size
  of_size_more k c d h =
      ap (λ (j : ℕ). of_size size test (take j xs) k) (add-one c)
      ∙ ap (λ (ys : List A). of_size size test ys k) (take-suc xs c d h)
      ∙ keep_append (λ (x : A). eqb (size x) k && test x) (take c xs) (get_or xs c d ∷ [])

  pub of_size_le : (k c : ℕ) → length (of_size size test (take c xs) k) ≤ length (of_size size test xs k)
  unfolding of_size
  of_size_le k c =
      let q : A → Bool = λ x. eqb (size x) k && test x in
      let e = ap (keep q) (sym (take-append-drop c xs)) ∙ keep_append q (take c xs) (drop c xs) in
      omega (arith, ap length e, length-append (keep q (take c xs)) (keep q (drop c xs)))

-- of one element
module _ {A : Type 0} (size : A → ℕ) (test : A → Bool) (k : ℕ) (x : A) where
  pub one_in : eqb (size x) k && test x ≡ true → of_size size test (x ∷ []) k ≡ x ∷ []
  unfolding of_size
  one_in e = ap (λ (b : Bool). cond b (x ∷ []) []) e

  pub one_out : eqb (size x) k && test x ≡ false → of_size size test (x ∷ []) k ≡ []
  unfolding of_size
  one_out e = ap (λ (b : Bool). cond b (x ∷ []) []) e

  pub one_kept : size x ≡ k → test x ≡ true → of_size size test (x ∷ []) k ≡ x ∷ []
  one_kept h t = one_in (and_intro (eqb (size x) k) (test x) (eq-eqb (size x) k h) t)

  pub one_other : (size x ≡ k → ⊥) → of_size size test (x ∷ []) k ≡ []
  one_other h = one_out (ap (λ (b : Bool). b && test x) (ne_eqb (size x) k h))

  pub one_failed : test x ≡ false → of_size size test (x ∷ []) k ≡ []
  one_failed h = one_out (ap (λ (b : Bool). eqb (size x) k && b) h ∙ and-false (eqb (size x) k))

-- two tests that agree on the list
module _ {A : Type 0} (size : A → ℕ) (p q : A → Bool) (xs : List A) (e : (x : A) → In x xs → p x ≡ q x) where
  of_size_same : (k : ℕ) → of_size size p xs k ≡ of_size size q xs k
  unfolding of_size
  of_size_same k = keep_same (λ x. eqb (size x) k && p x) (λ x. eqb (size x) k && q x) xs (λ x m. ap (λ (b : Bool). eqb (size x) k && b) (e x m))

  pub below_size_same : (k : ℕ) → below_size size p xs k ≡ below_size size q xs k
  below_size_same zero = refl
  below_size_same (suc k) = ap₂ (λ (ys zs : List A). ys ++ zs) (below_size_same k) (of_size_same k)
