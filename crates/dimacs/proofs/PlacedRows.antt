-- Rows whose clause is told by the values that it denies its symbols: the same as lists of places.
use Rattle.meaning.proofs.Kit.{◌≡◌, refl, ap₂, subst₂, true, false, Bool, cond, ◌&&◌, not, ◌||◌, true≢false, List, [], ◌∷◌, map, In, here, there, ℕ}
use Rattle.meaning.proofs.Kit.{suc, ◌*◌, zero, arith}
use Rattle.meaning.specs.Tests.{keep, from}
use Rattle.meaning.specs.Literals.{place}
use Rattle.meaning.specs.Clauses.{row_of}
use Rattle.meaning.proofs.ClauseRows.{against}
use Rattle.dimacs.proofs.GatheredSymbols.{symbol_at}

-- the row of places whose symbols are denied what these places deny
pub row_again : (f : ℕ → Bool) (row : List ℕ) → ((q : ℕ) → In q row → place (symbol_at q) (not (f (symbol_at q))) ≡ q)
    → row_of (map symbol_at row) (against (map f (map symbol_at row))) ≡ row
row_again f [] h = refl
row_again f (q ∷ row) h = ap₂ (λ (p : ℕ) (l : List ℕ). p ∷ l) (h q (here refl)) (row_again f row (λ p i. h p (there i)))

-- of the places of symbols above k those that pass a test, where of no symbol both do
module _ (test : ℕ → Bool) where
  abbrev pub either : ℕ → Bool
  either s = test (place s true) || test (place s false)

  abbrev pub row_from : List ℕ → List ℕ
  row_from symbols = row_of symbols (against (map (λ s. test (place s false)) symbols))

  pub row_places : (k n : ℕ) → ((s : ℕ) → test (place s true) && test (place s false) ≡ false)
      → row_from (keep either (from (suc k) n)) ≡ keep test (from (2 * k) (2 * n))
  row_places k zero h = refl
  row_places k (suc n) h =
      let two : 2 * suc n ≡ suc (suc (2 * n)) = omega arith in
      let on : 2 * suc k ≡ suc (place (suc k) false) = omega arith in
      let plus : place (suc k) true ≡ 2 * k = omega arith in
      let minus : place (suc k) false ≡ suc (2 * k) = omega arith in
      rw two
      (subst₂ (λ (p m : ℕ). row_from (keep either (from (suc k) (suc n))) ≡ keep test (p ∷ m ∷ from (suc m) (2 * n))) plus minus
      (go (test (place (suc k) true)) (test (place (suc k) false)) refl (h (suc k)) (rw on at (row_places (suc k) n h))))
    where
      rest : List ℕ
      rest = keep either (from (suc (suc k)) n)

      go : (a b : Bool) → test (place (suc k) false) ≡ b → a && b ≡ false → {places : List ℕ} → row_from rest ≡ places
          → row_from (cond (a || b) (suc k ∷ rest) rest)
          ≡ cond a (place (suc k) true ∷ cond b (place (suc k) false ∷ places) places) (cond b (place (suc k) false ∷ places) places)
      go true true e n r = absurd (true≢false n)
      go true false e n r = ap₂ (λ (x : Bool) (l : List ℕ). place (suc k) (not x) ∷ l) e r
      go false true e n r = ap₂ (λ (x : Bool) (l : List ℕ). place (suc k) (not x) ∷ l) e r
      go false false e n r = r
