-- The clause that says why a rule forces a literal p: p itself, and of the rule's other symbols the opposites of what is known.
use Rattle.meaning.proofs.Kit.{◌≡◌, ◌∙◌, refl, ⊎_elim, inl, inr, ◌⊎◌, true, false, Bool, cond, not, false≢true, true≢false, List, [], ◌∷◌, map}
use Rattle.meaning.proofs.Kit.{In, in_nil, in_cons, ℕ, arith, eqb, length, length-map, ne_eqb, eq-eqb, eqb-true}
use Rattle.meaning.specs.Literals.{place, opp, has, conflict}
use Rattle.meaning.specs.Formulae.{Rule}
use Rattle.meaning.specs.Clauses.{Digit, denies, out, plus, minus, fails, falsifies, implicate, row_of}
use Rattle.meaning.specs.SecondWay.{says, forces}
use Rattle.meaning.proofs.Tests.{both_true, not_intro, clash, all_of}
use Rattle.meaning.proofs.Literals.{opp_place, opposite_out}
use Rattle.meaning.proofs.Implicates.{implicate_of}
use Rattle.meaning.proofs.Ways.{forces_words}

abbrev reason_at : List Bool → ℕ → ℕ → Digit
reason_at known p s =
    cond (eqb (place s true) p) plus
    (cond (eqb (place s false) p) minus (cond (has known (place s true)) minus (cond (has known (place s false)) plus out)))

abbrev pub reason : List Bool → ℕ → List ℕ → List Digit
reason known p symbols = map (reason_at known p) symbols

-- its literals: p, and opposites of known literals
module _ (known : List Bool) (p : ℕ) where
  literal_at_lem : (s : ℕ) (x : Bool) → reason_at known p s ≡ denies x → (place s (not x) ≡ p) ⊎ (has known (opp (place s (not x))) ≡ true)
  literal_at_lem s x = go (eqb (place s true) p) (eqb (place s false) p) (has known (place s true)) (has known (place s false)) x refl refl refl refl
    where
      go : (a b c d x : Bool) → eqb (place s true) p ≡ a → eqb (place s false) p ≡ b → has known (place s true) ≡ c → has known (place s false) ≡ d
          → cond a plus (cond b minus (cond c minus (cond d plus out))) ≡ denies x
          → (place s (not x) ≡ p) ⊎ (has known (opp (place s (not x))) ≡ true)
      go true b c d false ea eb ec ed e = inl (eqb-true (place s true) p ea)
      go true b c d true ea eb ec ed e = absurd (false≢true (cc))
      go false true c d false ea eb ec ed e = absurd (true≢false (cc))
      go false true c d true ea eb ec ed e = inl (eqb-true (place s false) p eb)
      go false false true d false ea eb ec ed e = absurd (true≢false (cc))
      go false false true d true ea eb ec ed e = inr (rw (opp_place s false) ec)
      go false false false true false ea eb ec ed e = inr (rw (opp_place s true) ed)
      go false false false true true ea eb ec ed e = absurd (false≢true (cc))
      go false false false false x ea eb ec ed e = absurd (true≢false (cc))

  pub reason_row : (symbols : List ℕ) (q : ℕ) → In q (row_of symbols (reason known p symbols)) → (q ≡ p) ⊎ (has known (opp q) ≡ true)
  reason_row [] q m = absurd (in_nil m)
  reason_row (s ∷ symbols) q m = go (reason_at known p s) (literal_at_lem s) m (λ n. reason_row symbols q n)
    where
      go : (d : Digit) → ((x : Bool) → d ≡ denies x → (place s (not x) ≡ p) ⊎ (has known (opp (place s (not x))) ≡ true))
          → In q (row_of (s ∷ symbols) (d ∷ reason known p symbols))
          → (In q (row_of symbols (reason known p symbols)) → (q ≡ p) ⊎ (has known (opp q) ≡ true)) → (q ≡ p) ⊎ (has known (opp q) ≡ true)
      go (denies x) h n ih = ⊎_elim (λ e. rw e (h x refl)) ih (in_cons n)
      go out h n ih = ih n

-- where there is no conflict and p is not known, an assignment that makes it false agrees with what is known, and does not say p
module _ (known : List Bool) (p : ℕ) (peace : conflict known ≡ false) (new : has known p ≡ false) where
  false_at : (s : ℕ) (b : Bool) → fails (reason_at known p s) b ≡ true → (has known (opp (place s b)) ≡ false) × (eqb (place s b) p ≡ false)
  false_at s b = go (eqb (place s true) p) (eqb (place s false) p) (has known (place s true)) (has known (place s false)) b refl refl refl refl
    where
      go : (x y z w b : Bool) → eqb (place s true) p ≡ x → eqb (place s false) p ≡ y → has known (place s true) ≡ z → has known (place s false) ≡ w
          → fails (cond x plus (cond y minus (cond z minus (cond w plus out)))) b ≡ true
          → (has known (opp (place s b)) ≡ false) × (eqb (place s b) p ≡ false)
      go true y z w true ex ey ez ew e = absurd (false≢true e)
      go true y z w false ex ey ez ew e =
          let q = eqb-true (place s true) p ex in (rw (opp_place s false, q) new, ne_eqb (place s false) p (λ k. omega arith))
      go false true z w true ex ey ez ew e = let q = eqb-true (place s false) p ey in (rw (opp_place s true, q) new, ex)
      go false true z w false ex ey ez ew e = absurd (false≢true e)
      go false false true w true ex ey ez ew e = (opposite_out known (place s true) peace ez, ex)
      go false false true w false ex ey ez ew e = absurd (false≢true e)
      go false false false true true ex ey ez ew e = absurd (false≢true e)
      go false false false true false ex ey ez ew e = (rw (opp_place s false) ez, ey)
      go false false false false true ex ey ez ew e = (rw (opp_place s true) ew, ex)
      go false false false false false ex ey ez ew e = (rw (opp_place s false) ez, ey)

  reason_agrees : (symbols : List ℕ) (a : List Bool) → falsifies (reason known p symbols) a ≡ true
      → (q : ℕ) → In q (says symbols a) → (has known (opp q) ≡ false) × (eqb q p ≡ false)
  reason_agrees [] a f q m = absurd (in_nil m)
  reason_agrees (s ∷ symbols) [] f q m = absurd (in_nil m)
  reason_agrees (s ∷ symbols) (b ∷ a) f q m =
      let k = both_true (fails (reason_at known p s) b) (falsifies (reason known p symbols) a) f in
      ⊎_elim (λ e. rw e (false_at s b k.0)) (λ l. reason_agrees symbols a k.1 q l) (in_cons m)

  -- so it is an implicate of a rule that forces p
  pub reason_implicate : (rule : Rule) → forces known rule p ≡ true → implicate rule.accepts (reason known p rule.symbols) ≡ true
  reason_implicate rule f = implicate_of rule.accepts (reason known p symbols) bad
    where
      symbols : List ℕ
      symbols = rule.symbols

      bad : (a : List Bool) → length a ≡ length (reason known p symbols) → rule.accepts a ≡ true → falsifies (reason known p symbols) a ≡ true → ⊥
      bad a e s t =
          let each = reason_agrees symbols a t in
          let g = all_of (λ (q : ℕ). not (has known (opp q))) (says symbols a) (λ q m. not_intro (has known (opp q)) (each q m).0) in
          let m = (forces_words known rule p f).1 a (e ∙ length-map symbols (reason_at known p)) g s in
          clash (eq-eqb p p refl) (each p m).1
