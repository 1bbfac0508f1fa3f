-- A place put among places of rising symbols: what is there then, and that it clashes with its opposite.
use Rattle.meaning.proofs.Kit.{◌≡◌, ◌∙◌, sym, ap, refl, ⊎_elim, inl, inr, ◌⊎◌, ◌≢◌, true, false, not, false≢true, List, [], ◌∷◌, In, here, there}
use Rattle.meaning.proofs.Kit.{in_nil, in_cons, ℕ, ◌<◌, ◌/◌, arith, eqb, ne_eqb, eq-eqb, not-false, not-true, eqb-true, lt-ltb, le-ltb, eqb-false}
use Rattle.meaning.proofs.Kit.{eq-or-lt_of_le}
use Rattle.meaning.specs.Literals.{opp}
use Rattle.meaning.proofs.Tables.{le_or_lt}
use Rattle.meaning.proofs.Literals.{even_or_odd, opp_even, opp_odd}
use Rattle.meaning.proofs.SoundRows.{Rising}
use Rattle.dimacs.specs.Gathering.{clashes, inserted}

-- ---- opposites, by symbols

opp_half : (p : ℕ) → opp p / 2 ≡ p / 2
opp_half p = ⊎_elim (λ e. omega (arith, opp_even p e)) (λ o. omega (arith, opp_odd p o)) (even_or_odd p)

pub opp_other : (p : ℕ) → opp p ≢ p
opp_other p e = ⊎_elim (λ v. omega (arith, opp_even p v)) (λ o. omega (arith, opp_odd p o)) (even_or_odd p)

-- the symbol's other place is the opposite
other_opp : (p q : ℕ) → q / 2 ≡ p / 2 → q ≢ p → q ≡ opp p
other_opp p q e n = ⊎_elim (λ v. omega (arith, opp_even p v)) (λ o. omega (arith, opp_odd p o)) (even_or_odd p)

-- ---- a place and the first of a row, by the order of their symbols

pub data Order (q p : ℕ) : Type 0 where
  lower : q / 2 < p / 2 → Order q p
  same : q / 2 ≡ p / 2 → Order q p
  higher : p / 2 < q / 2 → Order q p

pub order : (q p : ℕ) → Order q p
order q p = ⊎_elim (λ h. ⊎_elim same lower (eq-or-lt_of_le h)) higher (le_or_lt (q / 2) (p / 2))

module _ (p q : ℕ) (row : List ℕ) where
  pub put_lower : q / 2 < p / 2 → (inserted p (q ∷ row) ≡ q ∷ inserted p row) × (clashes p (q ∷ row) ≡ clashes p row)
  unfolding inserted clashes
  put_lower l = rw (lt-ltb (q / 2) (p / 2) l) (refl, refl)

  pub put_same : q / 2 ≡ p / 2 → (inserted p (q ∷ row) ≡ q ∷ row) × (clashes p (q ∷ row) ≡ not (eqb q p))
  unfolding inserted clashes
  put_same e = rw (le-ltb (q / 2) (p / 2) (omega arith), eq-eqb (q / 2) (p / 2) e) (refl, refl)

  pub put_higher : p / 2 < q / 2 → (inserted p (q ∷ row) ≡ p ∷ q ∷ row) × (clashes p (q ∷ row) ≡ false)
  unfolding inserted clashes
  put_higher l = rw (le-ltb (q / 2) (p / 2) (omega arith), ne_eqb (q / 2) (p / 2) (omega arith)) (refl, refl)

-- ---- a place put into a row: what the row has then

pub inserted_in : (p : ℕ) (row : List ℕ) (x : ℕ) → In x (inserted p row) → In x (p ∷ row)
inserted_in p [] x m = unfold inserted in m
inserted_in p (q ∷ row) x m = go (order q p) (inserted_in p row x)
  where
    later : (In x (inserted p row) → In x (p ∷ row)) → (x ≡ q) ⊎ In x (inserted p row) → In x (p ∷ q ∷ row)
    later ih (inl e) = there (here e)
    later ih (inr n) = ⊎_elim (λ e. here e) (λ k. there (there k)) (in_cons (ih n))

    go : Order q p → (In x (inserted p row) → In x (p ∷ row)) → In x (p ∷ q ∷ row)
    go (lower l) ih = later ih (in_cons (rw (put_lower p q row l).0 at m))
    go (same e) ih = there (rw (put_same p q row e).0 at m)
    go (higher l) ih = rw (put_higher p q row l).0 at m

-- where it clashes with none, all that it should have
pub in_inserted : (p : ℕ) (row : List ℕ) (x : ℕ) → clashes p row ≡ false → In x (p ∷ row) → In x (inserted p row)
in_inserted p [] x c m = unfold inserted in m
in_inserted p (q ∷ row) x c m = go (order q p) (in_cons m) (in_inserted p row x)
  where
    go : Order q p → (x ≡ p) ⊎ In x (q ∷ row) → (clashes p row ≡ false → In x (p ∷ row) → In x (inserted p row)) → In x (inserted p (q ∷ row))
    go (lower l) k ih =
        let f = put_lower p q row l in
        let on : In x (p ∷ row) → In x (q ∷ inserted p row) = λ n. there (ih (sym f.1 ∙ c) n) in
        rw f.0 (⊎_elim (λ e. on (here e)) (λ n. ⊎_elim (λ e. here e) (λ n. on (there n)) (in_cons n)) k)
    go (same e) k ih =
        let f = put_same p q row e in
        let is : q ≡ p = eqb-true q p (not-false (eqb q p) (sym f.1 ∙ c)) in
        rw f.0 (⊎_elim (λ e. here (e ∙ sym is)) (λ n. n) k)
    go (higher l) k ih = rw (put_higher p q row l).0 m

-- symbols that rise still do
pub inserted_rising : (p : ℕ) (row : List ℕ) → Rising row → Rising (inserted p row)
inserted_rising p [] r = unfold inserted in (λ x m. absurd (in_nil m), tt)
inserted_rising p (q ∷ row) r = go (order q p) (inserted_rising p row r.1)
  where
    go : Order q p → Rising (inserted p row) → Rising (inserted p (q ∷ row))
    go (lower l) ih =
        rw (put_lower p q row l).0
        (λ x m. ⊎_elim (λ e. omega (arith, ap (λ (y : ℕ). y / 2) e)) (λ n. r.0 x n) (in_cons (inserted_in p row x m)), ih)
    go (same e) ih = rw (put_same p q row e).0 r
    go (higher l) ih =
        rw (put_higher p q row l).0
        (λ x m. ⊎_elim (λ e. omega (arith, ap (λ (y : ℕ). y / 2) e)) (λ n. omega (arith, r.0 x n)) (in_cons m), r)

-- it clashes with its opposite
pub clash_in_lem : (p : ℕ) (row : List ℕ) → clashes p row ≡ true → In (opp p) row
clash_in_lem p [] c = absurd (false≢true (unfold clashes in c))
clash_in_lem p (q ∷ row) c = go (order q p) (clash_in_lem p row)
  where
    go : Order q p → (clashes p row ≡ true → In (opp p) row) → In (opp p) (q ∷ row)
    go (lower l) ih = there (ih (sym (put_lower p q row l).1 ∙ c))
    go (same e) ih = here (sym (other_opp p q e (eqb-false q p (not-true (eqb q p) (sym (put_same p q row e).1 ∙ c)))))
    go (higher l) ih = absurd (false≢true (sym (put_higher p q row l).1 ∙ c))

pub in_clash : (p : ℕ) (row : List ℕ) → Rising row → In (opp p) row → clashes p row ≡ true
in_clash p [] r m = absurd (in_nil m)
in_clash p (q ∷ row) r m = go (order q p) (in_cons m) (in_clash p row r.1)
  where
    go : Order q p → (opp p ≡ q) ⊎ In (opp p) row → (In (opp p) row → clashes p row ≡ true) → clashes p (q ∷ row) ≡ true
    go (lower l) (inl e) ih = absurd (omega (arith, ap (λ (y : ℕ). y / 2) e, opp_half p))
    go (lower l) (inr n) ih = (put_lower p q row l).1 ∙ ih n
    go (same e) (inl o) ih = (put_same p q row e).1 ∙ rw (ne_eqb q p (λ f. opp_other p (o ∙ f)))
    go (same e) (inr n) ih = absurd (omega (arith, r.0 (opp p) n, opp_half p))
    go (higher l) (inl e) ih = absurd (omega (arith, ap (λ (y : ℕ). y / 2) e, opp_half p))
    go (higher l) (inr n) ih = absurd (omega (arith, r.0 (opp p) n, opp_half p))
