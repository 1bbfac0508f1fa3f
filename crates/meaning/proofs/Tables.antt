-- Laws of `tabulate`, the table of a function, of runs of stores, of `first`, the least number that passes a test, and of `first_smallest`, the one of
-- smallest value.
use Rattle.meaning.proofs.Kit.{◌≡◌, ◌∙◌, sym, ap, refl, subst, ⊎_elim, inl, inr, ◌⊎◌, true, false, Bool, cond, ◌&&◌, ◌||◌, true≢false, List}
use Rattle.meaning.proofs.Kit.{[], ◌∷◌, ◌++◌, map, In, in_nil, in_cons, ◌≤◌, ℕ, ◌<◌, ◌+◌, suc, zero, add-zero, not-suc-le-zero}
use Rattle.meaning.proofs.Kit.{le_of_suc-le-suc, eq-or-lt_of_le, arith, eqb, leb, ltb, length, get_or, set, get_or-set_other, get_or-set_same, sets}
use Rattle.meaning.proofs.Kit.{ext_get_or, ne_eqb, eq-eqb, ltb-true, lt-ltb, leb-true, le-ltb, ltb-false, leb-false, below_more}
use Rattle.meaning.proofs.Tests.{true_or_false}
use Rattle.meaning.specs.Tests.{tabulate, none, first, first_smallest}

-- ---- the table of a function

module _ {A : Type 0} where
  pub length_tabulate : (n : ℕ) (f : ℕ → A) → length (tabulate n f) ≡ n
  length_tabulate zero f = refl
  length_tabulate (suc n) f = ap suc (length_tabulate n (λ i. f (suc i)))

  pub get_d_tabulate : (n : ℕ) (f : ℕ → A) (i : ℕ) (d : A) → i < n → get_or (tabulate n f) i d ≡ f i
  get_d_tabulate zero f i d h = absurd (not-suc-le-zero h)
  get_d_tabulate (suc n) f zero d h = refl
  get_d_tabulate (suc n) f (suc i) d h = get_d_tabulate n (λ i. f (suc i)) i d (le_of_suc-le-suc h)

  -- a list is the table of the function that its elements are
  pub tabulate_ext : (d : A) (n : ℕ) (f : ℕ → A) (l : List A) → length l ≡ n → ((i : ℕ) → i < n → get_or l i d ≡ f i) → l ≡ tabulate n f
  tabulate_ext d n f l e h =
      ext_get_or d l (tabulate n f) (e ∙ sym (length_tabulate n f)) (λ i b. h i (rw e at b) ∙ sym (get_d_tabulate n f i d (rw e at b)))

  pub tabulate_same : (d : A) (n m : ℕ) (f g : ℕ → A) → n ≡ m → ((i : ℕ) → i < m → f i ≡ g i) → tabulate n f ≡ tabulate m g
  tabulate_same d n m f g e h = tabulate_ext d m g (tabulate n f) (length_tabulate n f ∙ e) (λ i b. get_d_tabulate n f i d (rw e b) ∙ h i b)

  pub tabulate_snoc : (n : ℕ) (f : ℕ → A) → tabulate (suc n) f ≡ tabulate n f ++ f n ∷ []
  tabulate_snoc zero f = refl
  tabulate_snoc (suc n) f = ap (λ l. f 0 ∷ l) (tabulate_snoc n (λ i. f (suc i)))

  -- an element of it is the value at some number
  pub tabulate_in : (n : ℕ) (f : ℕ → A) {x : A} → In x (tabulate n f) → (i : ℕ) × (i < n) × (x ≡ f i)
  tabulate_in zero f m = absurd (in_nil m)
  tabulate_in (suc n) f m =
      ⊎_elim (λ e. (zero, omega arith, e)) (λ t. (let r = tabulate_in n (λ j. f (suc j)) t in (suc r.0, omega (arith, r.1), r.2))) (in_cons m)

  -- filling a list from the front by the values of a function: one more
  pub filled_more : (d : A) (f : ℕ → A) (l : List A) (p : ℕ) (v : A) → p < length l → ((i : ℕ) → i < p → get_or l i d ≡ f i) → v ≡ f p
      → (i : ℕ) → i < p + 1 → get_or (set l p v) i d ≡ f i
  filled_more d f l p v h before here =
      below_more (λ i. get_or (set l p v) i d ≡ f i) p
      (λ i b. get_or-set_other l p i v d (λ e. omega (arith, e)) ∙ before i b)
      (get_or-set_same l p v d h ∙ here)

  -- a run of stores, and one after it
  pub sets_append : (l : List A) (i : ℕ) (a b : List A) → sets l i (a ++ b) ≡ sets (sets l i a) (i + length a) b
  sets_append l i [] b = rw add-zero
  sets_append l i (x ∷ a) b =
      let e : suc i + length a ≡ i + suc (length a) = omega arith in
      sets_append (set l i x) (suc i) a b ∙ rw e

pub map_tabulate : {A B : Type 0} (f : A → B) (n : ℕ) (g : ℕ → A) → map f (tabulate n g) ≡ tabulate n (λ i. f (g i))
map_tabulate f zero g = refl
map_tabulate f (suc n) g = ap (λ l. f (g 0) ∷ l) (map_tabulate f n (λ i. g (suc i)))

-- ---- the least number that passes a test

pub le_or_lt : (a b : ℕ) → (a ≤ b) ⊎ (b < a)
le_or_lt a b = ⊎_elim (λ e. inl (leb-true a b e)) (λ e. inr (leb-false a b e)) (true_or_false (leb a b))

-- what holds below n and at n holds below suc n
pub below_suc : (P : ℕ → Type 0) (n : ℕ) → ((i : ℕ) → i < n → P i) → P n → (i : ℕ) → i < suc n → P i
below_suc P n all here i h = ⊎_elim (λ e. subst P (sym e) here) (λ l. all i l) (eq-or-lt_of_le (le_of_suc-le-suc h))

-- r is the least number below n that passes the test, or none where there is none
abbrev pub FirstIs : (ℕ → Bool) → ℕ → ℕ → Type 0
FirstIs test n r = ((r < n) × (test r ≡ true) × ((i : ℕ) → i < r → test i ≡ false)) ⊎ ((r ≡ none) × ((i : ℕ) → i < n → test i ≡ false))

module _ (test : ℕ → Bool) where
  first_more : (n r : ℕ) → suc n ≤ none → FirstIs test n r → (t : Bool) → test n ≡ t → FirstIs test (suc n) (cond (ltb r n) r (cond t n none))
  first_more n r small (inl f) t q = rw (lt-ltb r n f.0) (inl (omega (arith, f.0), f.1, f.2))
  first_more n r small (inr f) true q = rw (le-ltb r n (omega (arith, f.0))) (inl (omega arith, q, f.1))
  first_more n r small (inr f) false q = rw (le-ltb r n (omega (arith, f.0))) (inr (refl, below_suc (λ i. test i ≡ false) n f.1 q))

  -- `first` is that number,
  pub first_is : (n : ℕ) → n ≤ none → FirstIs test n (first test n)
  first_is zero small = inr (refl, λ i h. absurd (not-suc-le-zero h))
  first_is (suc n) small = first_more n (first test n) small (first_is n (omega arith)) (test n) refl

  -- and no other number is
  pub first_only : (n r s : ℕ) → FirstIs test n r → FirstIs test n s → r ≡ s
  first_only n r s (inl f) (inl g) =
      let not-less : ¬ (r < s) = λ l. true≢false (sym f.1 ∙ g.2 r l) in
      let not_more : ¬ (s < r) = λ l. true≢false (sym g.1 ∙ f.2 s l) in
      omega arith
  first_only n r s (inl f) (inr g) = absurd (true≢false (sym f.1 ∙ g.1 r f.0))
  first_only n r s (inr f) (inl g) = absurd (true≢false (sym g.1 ∙ f.1 s g.0))
  first_only n r s (inr f) (inr g) = f.0 ∙ sym g.0

-- ---- the one of smallest value

-- r goes before i: its value is no larger, and where they are equal it is no higher
abbrev pub Ahead : (ℕ → ℕ) → ℕ → ℕ → Type 0
Ahead value r i = (value r ≤ value i) × (value i ≡ value r → r ≤ i)

-- r is the number below n that passes the test and goes before each other that does, or none where no number passes
abbrev pub SmallestIs : (ℕ → Bool) → (ℕ → ℕ) → ℕ → ℕ → Type 0
SmallestIs test value n r =
    ((r < n) × (test r ≡ true) × ((i : ℕ) → i < n → test i ≡ true → Ahead value r i)) ⊎ ((r ≡ none) × ((i : ℕ) → i < n → test i ≡ false))

module _ (test : ℕ → Bool) (value : ℕ → ℕ) where
  smallest_more : (n r : ℕ) → suc n ≤ none → SmallestIs test value n r → (t : Bool) → test n ≡ t → (l : Bool) → ltb (value n) (value r) ≡ l
      → SmallestIs test value (suc n) (cond (t && (eqb r none || l)) n r)
  smallest_more n r small (inl f) true q true e =
      let below = f.0 in
      let less = ltb-true (value n) (value r) e in
      let ahead : (i : ℕ) → i < n → test i ≡ true → Ahead value n i =
      λ i h p. (let a = (f.2 i h p).0 in (omega arith, λ s. absurd (omega arith))) in
      rw (ne_eqb r none (λ z. omega arith))
      (inl (omega arith, q, below_suc (λ i. test i ≡ true → Ahead value n i) n ahead (λ p. (omega arith, λ s. omega arith))))
  smallest_more n r small (inl f) true q false e =
      let below = f.0 in
      let more = ltb-false (value n) (value r) e in
      rw (ne_eqb r none (λ z. omega arith))
      (inl (omega arith, f.1, below_suc (λ i. test i ≡ true → Ahead value r i) n f.2 (λ p. (omega arith, λ s. omega arith))))
  smallest_more n r small (inl f) false q l e =
      let below = f.0 in
      inl (omega arith, f.1, below_suc (λ i. test i ≡ true → Ahead value r i) n f.2 (λ p. absurd (true≢false (sym p ∙ q))))
  smallest_more n r small (inr f) true q l e =
      let ahead : (i : ℕ) → i < n → test i ≡ true → Ahead value n i = λ i h p. absurd (true≢false (sym p ∙ f.1 i h)) in
      rw (eq-eqb r none f.0)
      (inl (omega arith, q, below_suc (λ i. test i ≡ true → Ahead value n i) n ahead (λ p. (omega arith, λ s. omega arith))))
  smallest_more n r small (inr f) false q l e = inr (f.0, below_suc (λ i. test i ≡ false) n f.1 q)

  -- `first_smallest` is that number
  pub first_smallest_is : (n : ℕ) → n ≤ none → SmallestIs test value n (first_smallest test value n)
  first_smallest_is zero small = inr (refl, λ i h. absurd (not-suc-le-zero h))
  first_smallest_is (suc n) small =
      let before = first_smallest test value n in
      smallest_more n before small (first_smallest_is n (omega arith)) (test n) refl (ltb (value n) (value before)) refl

  -- and no other number is
  pub smallest_only : (n r s : ℕ) → SmallestIs test value n r → SmallestIs test value n s → r ≡ s
  smallest_only n r s (inl f) (inl g) =
      let one = f.2 s g.0 g.1 in
      let other = g.2 r f.0 f.1 in
      let same : value r ≡ value s = omega (arith, one.0, other.0) in
      omega (arith, one.1 (sym same), other.1 same)
  smallest_only n r s (inl f) (inr g) = absurd (true≢false (sym f.1 ∙ g.1 r f.0))
  smallest_only n r s (inr f) (inl g) = absurd (true≢false (sym g.1 ∙ f.1 s g.0))
  smallest_only n r s (inr f) (inr g) = f.0 ∙ sym g.0

-- tests and values that agree have the same one
pub first_smallest_same : (n : ℕ) (f g : ℕ → Bool) (v w : ℕ → ℕ) → n ≤ none → ((i : ℕ) → i < n → f i ≡ g i) → ((i : ℕ) → i < n → v i ≡ w i)
    → first_smallest f v n ≡ first_smallest g w n
first_smallest_same zero f g v w small h k = refl
first_smallest_same (suc n) f g v w small h k =
    let same = first_smallest_same n f g v w (omega arith) (λ i l. h i (omega arith)) (λ i l. k i (omega arith)) in
    rw (same, h n (omega arith), k n (omega arith))
    (⊎_elim
    (λ s. rw (k r (omega (arith, s.0))))
    (λ s. rw (eq-eqb r none s.0))
    (first_smallest_is g w n (omega arith)))
  where
    r : ℕ
    r = first_smallest g w n
