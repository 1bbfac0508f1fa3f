-- The places gathered of a clause are of its symbols, rising, one place a symbol.
use Rattle.meaning.proofs.Kit.{◌≡◌, ◌∙◌, sym, ap, refl, ◌⊎◌, true, false, Bool, cond, ◌||◌, or-false, or_assoc, List, [], ◌∷◌, map, In, here, ◌≤◌, ℕ}
use Rattle.meaning.proofs.Kit.{◌<◌, ◌+◌, suc, zero, ◌/◌, arith, eqb, ltb, ℤ, pos, nat_abs, negsuc, ne_eqb, eq-eqb, lt-ltb, le-ltb, eq-or-lt_of_le, inl}
use Rattle.meaning.proofs.Kit.{inr}
use lib.Dec.{eqb-suc-suc, leb-suc-suc}
use Rattle.meaning.specs.Tests.{any, all, keep, from}
use Rattle.meaning.proofs.Tests.{both_true, from_in, keep_in, keep_same}
use Rattle.literals.specs.Literal.{in_range, place_of}
use Rattle.literals.proofs.Arguments.{range_facts}
use Rattle.dimacs.specs.Gathering.{gathered, inserted}
use Rattle.dimacs.proofs.Tested.{by_test}

-- the symbol of a place
abbrev pub symbol_at : ℕ → ℕ
symbol_at p = suc (p / 2)

pub place_symbol : (l : ℤ) → 1 ≤ nat_abs l → symbol_at (place_of l) ≡ nat_abs l
unfolding place_of
place_symbol (pos s) h = omega arith
place_symbol (negsuc k) h = omega arith

-- ---- a symbol put among rising symbols, if it is not there yet

put : ℕ → List ℕ → List ℕ
put s [] = s ∷ []
put s (t ∷ symbols) = cond (ltb t s) (t ∷ put s symbols) (cond (eqb t s) (t ∷ symbols) (s ∷ t ∷ symbols))

-- so goes the symbol of a place that is put into a row
put_inserted : (p : ℕ) (row : List ℕ) → map symbol_at (inserted p row) ≡ put (symbol_at p) (map symbol_at row)
unfolding inserted put
put_inserted p [] = refl
put_inserted p (q ∷ row) =
    let ih = put_inserted p row in
    rw (leb-suc-suc (symbol_at q) (p / 2), eqb-suc-suc (q / 2) (p / 2))
    (by_test (ltb (q / 2) (p / 2)) (λ t. rw (t, ih))
    (λ f. by_test (eqb (q / 2) (p / 2)) (λ t. rw (f, t)) (λ n. rw (f, n))))

-- before larger ones it comes first
put_first : (s : ℕ) (symbols : List ℕ) → ((t : ℕ) → In t symbols → s < t) → put s symbols ≡ s ∷ symbols
unfolding put
put_first s [] h = refl
put_first s (t ∷ symbols) h = let l = h t (here refl) in rw (le-ltb t s (omega arith), ne_eqb t s (omega arith))

-- among those that pass a test: it passes then too
module _ (s : ℕ) where
  abbrev with : (ℕ → Bool) → ℕ → Bool
  with test t = test t || eqb s t

  -- past it, nothing changes
  past : (test : ℕ → Bool) (n : ℕ) → keep (with test) (from (suc s) n) ≡ keep test (from (suc s) n)
  past test n =
      keep_same (with test) test (from (suc s) n)
      (λ t m. let r = from_in (suc s) n t m in ap (λ (b : Bool). test t || b) (ne_eqb s t (omega arith)) ∙ or-false (test t))

  put_here : (test : ℕ → Bool) (n : ℕ) → put s (keep test (from s (suc n))) ≡ keep (with test) (from s (suc n))
  unfolding put
  put_here test n =
      let later : (t : ℕ) → In t (keep test (from (suc s) n)) → s < t =
      λ t m. let r = from_in (suc s) n t (keep_in test (from (suc s) n) m).0 in omega arith in
      rw (eq-eqb s s refl, past test n)
      (by_test (test s) (λ e. rw (e, le-ltb s s (omega arith), eq-eqb s s refl)) (λ e. rw e (put_first s (keep test (from (suc s) n)) later)))

  put_keep : (test : ℕ → Bool) (k n : ℕ) → k ≤ s → s < k + n → put s (keep test (from k n)) ≡ keep (with test) (from k n)
  unfolding put
  put_keep test k zero low high = absurd (omega arith)
  put_keep test k (suc n) low high = go (eq-or-lt_of_le low) (λ l. put_keep test (suc k) n l (omega arith))
    where
      go : (k ≡ s) ⊎ (k < s) → (k < s → put s (keep test (from (suc k) n)) ≡ keep (with test) (from (suc k) n))
          → put s (keep test (from k (suc n))) ≡ keep (with test) (from k (suc n))
      go (inl e) ih = rw e (put_here test n)
      go (inr l) ih = rw (ne_eqb s k (omega arith)) (by_test (test k) (λ t. rw (t, lt-ltb k s l, ih l)) (λ f. rw (f, ih l)))

-- ---- the symbols of a gathered row

-- behind symbols that pass a test, those of the clause
gathered_more : (S : ℕ) (test : ℕ → Bool) (row : List ℕ) (ls : List ℤ) → all (in_range S) ls ≡ true → map symbol_at row ≡ keep test (from 1 S)
    → map symbol_at (gathered row ls) ≡ keep (λ s. test s || any (λ l. eqb (nat_abs l) s) ls) (from 1 S)
unfolding gathered
gathered_more S test row [] h e = e ∙ keep_same test (λ s. test s || false) (from 1 S) (λ s m. sym (or-false (test s)))
gathered_more S test row (l ∷ ls) h e =
    let r = both_true (in_range S l) (all (in_range S) ls) h in
    let b = range_facts S l r.0 in
    let one : map symbol_at (inserted (place_of l) row) ≡ keep (with (nat_abs l) test) (from 1 S) =
    put_inserted (place_of l) row ∙ rw (place_symbol l b.0, e) (put_keep (nat_abs l) test 1 S b.0 (omega (arith, b.1))) in
    gathered_more S (with (nat_abs l) test) (inserted (place_of l) row) ls r.1 one
    ∙ keep_same (λ s. with (nat_abs l) test s || any (λ m. eqb (nat_abs m) s) ls) (λ s. test s || any (λ m. eqb (nat_abs m) s) (l ∷ ls)) (from 1 S)
    (λ s m. or_assoc (test s) (eqb (nat_abs l) s) (any (λ m. eqb (nat_abs m) s) ls))

keep_none : (xs : List ℕ) → keep (λ x. false) xs ≡ []
keep_none [] = refl
keep_none (x ∷ xs) = keep_none xs

-- those of a clause alone
pub gathered_symbols : (S : ℕ) (c : List ℤ) → all (in_range S) c ≡ true
    → map symbol_at (gathered [] c) ≡ keep (λ s. any (λ l. eqb (nat_abs l) s) c) (from 1 S)
gathered_symbols S c h = gathered_more S (λ s. false) [] c h (sym (keep_none (from 1 S)))
