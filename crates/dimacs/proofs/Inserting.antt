-- Places put among places of rising symbols, and into a row that is lent.
use Rattle.meaning.proofs.Kit.{◌≡◌, ◌∙◌, sym, ap, refl, true, false, not, List, [], ◌∷◌, ◌++◌, append_assoc, ◌≤◌, ℕ, ◌<◌, ◌+◌, suc, ◌/◌}
use Rattle.meaning.proofs.Kit.{arith, eqb, length, get_or, drop, take, length-append, length-drop, length-take, length-take-le, ⊎_elim}
use Rattle.meaning.proofs.Kit.{take_at, get_or-take, take-take, lt-ltb, le-ltb}
use Rattle.meaning.proofs.Kit.{cond, ltb}
use Rattle.std.specs.List.{prefix_len}
use Rattle.std.proofs.lemmas.List.Recursion.{same_from_clauses}
use Rattle.meaning.proofs.Tests.{clash}
use Rattle.meaning.proofs.Tables.{le_or_lt}
use Rattle.dimacs.specs.Gathering.{Inserts, clashes, inserted, lower_of, put_at}
use Rattle.dimacs.proofs.InsertedPlaces.{Order, lower, same, higher, order, put_lower, put_same, put_higher}

-- ---- how many lie before

-- the first is of a symbol before s, or it is not
first_lower : (s q : ℕ) (row : List ℕ) → q / 2 < s → lower_of s (q ∷ row) ≡ suc (lower_of s row)
unfolding lower_of
first_lower s q row h = rw (lt-ltb (q / 2) s h)

first_not : (s q : ℕ) (row : List ℕ) → s ≤ q / 2 → lower_of s (q ∷ row) ≡ 0
unfolding lower_of
first_not s q row h = rw (le-ltb (q / 2) s h)

lower_most : (s : ℕ) (row : List ℕ) → lower_of s row ≤ length row
lower_most s [] = unfold lower_of in omega arith
lower_most s (q ∷ row) =
    ⊎_elim (λ h. omega (arith, first_not s q row h)) (λ h. omega (arith, first_lower s q row h, lower_most s row)) (le_or_lt s (q / 2))

pub lower_prefix : (s : ℕ) (row : List ℕ) → prefix_len (λ q. ltb (q / 2) s) row ≡ lower_of s row
unfolding lower_of
lower_prefix s =
    same_from_clauses (prefix_len (λ q. ltb (q / 2) s)) (lower_of s) (λ q n. cond (ltb (q / 2) s) (1 + n) 0) refl (λ q row. refl)
    (λ q row. let e : suc (lower_of s row) ≡ 1 + lower_of s row = omega arith in rw e)

-- ---- insertion, at that place

-- a place of the same symbol stands there
abbrev there : ℕ → List ℕ → ℕ
there p row = get_or row (lower_of (p / 2) row) 0

abbrev Stands : ℕ → List ℕ → Type 0
Stands p row = (lower_of (p / 2) row < length row) × (there p row / 2 ≡ p / 2)

-- so the row stays
abbrev Stays : ℕ → List ℕ → Type 0
Stays p row = (inserted p row ≡ row) × (clashes p row ≡ not (eqb (there p row) p))

-- or it is put there
abbrev Comes : ℕ → List ℕ → Type 0
Comes p row = (inserted p row ≡ take (lower_of (p / 2) row) row ++ (p ∷ drop (lower_of (p / 2) row) row)) × (clashes p row ≡ false)

inserted_same : (p : ℕ) (row : List ℕ) → Stands p row → Stays p row
inserted_same p [] s = absurd (omega (arith, s.0))
inserted_same p (q ∷ row) s = go (order q p) (inserted_same p row)
  where
    go : Order q p → (Stands p row → Stays p row) → Stays p (q ∷ row)
    go (lower l) ih =
        let next = first_lower (p / 2) q row l in
        let r = ih (omega (arith, next, s.0), rw next at s.1) in
        rw ((put_lower p q row l).0, (put_lower p q row l).1, next) (ap (λ (g : List ℕ). q ∷ g) r.0, r.1)
    go (same i) ih = rw ((put_same p q row i).0, (put_same p q row i).1, first_not (p / 2) q row (omega arith)) (refl, refl)
    go (higher l) ih = let none = first_not (p / 2) q row (omega arith) in absurd (omega (arith, rw none at s.1))

inserted_new : (p : ℕ) (row : List ℕ) → (Stands p row → ⊥) → Comes p row
inserted_new p [] n = unfold inserted clashes lower_of in (refl, refl)
inserted_new p (q ∷ row) n = go (order q p) (inserted_new p row)
  where
    go : Order q p → ((Stands p row → ⊥) → Comes p row) → Comes p (q ∷ row)
    go (lower l) ih =
        let next = first_lower (p / 2) q row l in
        let r = ih (λ s. n (omega (arith, next, s.0), rw next s.1)) in
        rw ((put_lower p q row l).0, (put_lower p q row l).1, next) (ap (λ (g : List ℕ). q ∷ g) r.0, r.1)
    go (same i) ih = let none = first_not (p / 2) q row (omega arith) in absurd (n (omega (arith, none), rw none i))
    go (higher l) ih = rw ((put_higher p q row l).0, (put_higher p q row l).1, first_not (p / 2) q row (omega arith)) (refl, refl)

-- ---- a place put into a row

module _ (r : List ℕ) (count : ℕ) (within : count ≤ length r) (p : ℕ) (j : ℕ) (is : j ≡ lower_of (p / 2) (take count r)) where
  abbrev g : List ℕ
  g = take count r

  g_length : length g ≡ count
  g_length = length-take-le count r within

  pub lower_within : j ≤ count
  lower_within = omega (arith, is, lower_most (p / 2) g, g_length)

  g_at : j < count → get_or g (lower_of (p / 2) g) 0 ≡ get_or r j 0
  g_at h = ap (λ (i : ℕ). get_or g i 0) (sym is) ∙ get_or-take count r j 0 h

  pub insert_same : j < count → get_or r j 0 / 2 ≡ p / 2 → Inserts r r count p count (not (eqb (get_or r j 0) p)) false
  insert_same h e =
      let f = inserted_same p g (omega (arith, is, g_length), ap (λ (q : ℕ). q / 2) (g_at h) ∙ e) in
      let n : length (inserted p g) ≡ count = ap length f.0 ∙ g_length in
      record {
        is_full = sym (le-ltb (length r) (length (inserted p g)) (omega arith));
        is_clash = sym (f.1 ∙ ap (λ (q : ℕ). not (eqb q p)) (g_at h));
        is_row = λ e. sym f.0;
        is_count = λ e. sym n;
        kept = λ e. refl;
        stays = λ e. refl;
      }

  module _ (new : j < count → get_or r j 0 / 2 ≡ p / 2 → ⊥) where
    put : Comes p g
    put = inserted_new p g (λ s. let h : j < count = omega (arith, is, g_length, s.0) in new h (ap (λ (q : ℕ). q / 2) (sym (g_at h)) ∙ s.1))

    put_is : inserted p g ≡ take j g ++ (p ∷ drop j g)
    put_is = put.0 ∙ ap (λ (i : ℕ). take i g ++ (p ∷ drop i g)) (sym is)

    put_length : length (take j g ++ (p ∷ drop j g)) ≡ count + 1
    put_length = simp (length-append, length-take, length-drop) (omega (arith, g_length, lower_within))

    pub insert_full : count ≡ length r → Inserts r r count p count false true
    insert_full e = record {
      is_full = sym (lt-ltb (length r) (length (inserted p g)) (omega (arith, ap length put_is, put_length)));
      is_clash = sym put.1;
      is_row = λ f. clash refl f;
      is_count = λ f. clash refl f;
      kept = λ f. refl;
      stays = λ f. refl;
    }

    pub insert_new : count < length r → {after : List ℕ} → after ≡ put_at r count j p → Inserts r after count p (count + 1) false false
    insert_new h {after} a =
        let before : take j r ≡ take j g = sym (take-take j count r lower_within) in
        let split : after ≡ (take j g ++ (p ∷ drop j g)) ++ drop (count + 1) r =
        a ∙ rw before (sym (append_assoc (take j g) (p ∷ drop j g) (drop (count + 1) r))) in
        record {
          is_full = sym (le-ltb (length r) (length (inserted p g)) (omega (arith, ap length put_is, put_length)));
          is_clash = sym put.1;
          is_row = λ f. rw split (take_at (take j g ++ (p ∷ drop j g)) (drop (count + 1) r) (count + 1) put_length) ∙ sym put_is;
          is_count = λ f. sym (ap length put_is ∙ put_length);
          kept = λ f. clash f refl;
          stays = λ f. clash f refl;
        }
