-- Laws of places: of a literal by its sign and its symbol's number, and of the literal at a place.
use Rattle.meaning.proofs.Kit.{◌≡◌, ◌∙◌, sym, ap, subst, ⊎_elim, true, false, ◌≤◌, ℕ, ◌<◌, ◌+◌, suc, ◌*◌, zero, ◌/◌, ◌%◌, arith, T, ℤ, pos}
use Rattle.meaning.proofs.Kit.{nat_abs, negsuc, ◌-ℤ◌, lt_z, w16, SFits, to_z-of_z, ne_eqb, eq-eqb, le-ltb, ltb-false}
use lib.IntN.{◌*ℤ◌, neg_ℤ-neg_ℤ}
use mir.Syntax.{w64}
use Rattle.meaning.specs.Literals.{place}
use Rattle.meaning.proofs.Literals.{even_or_odd}
use Rattle.literals.specs.Literal.{place_of, literal_at}
use Rattle.literals.specs.Promises.{PlaceOfLiteral, LiteralAtPlace}
use Rattle.literals.proofs.Signed.{back, read, wide_is}

-- ---- the place of a literal, by the test `l > 0`: from 2l in 64 bits

pub double_fits : {l : ℤ} → SFits w16 l → SFits w64 (pos 2 *ℤ read (back l))
double_fits {l} f = rw (wide_is f) (go l f)
  where
    go : (z : ℤ) → SFits w16 z → SFits w64 (pos 2 *ℤ z)
    go (pos n) f = record { sfits = omega arith }
    go (negsuc k) f = let e : 2 * suc k ≡ suc (2 * k + 1) = omega arith in rw e (record { sfits = omega arith })

double : {l : ℤ} → SFits w16 l → read (pos 2 *ℤ read (back l)) ≡ pos 2 *ℤ l
double f = to_z-of_z (double_fits f) ∙ ap (λ (z : ℤ). pos 2 *ℤ z) (wide_is f)

-- it held
pub place_positive : {l : ℤ} → SFits w16 l → lt_z (pos 0) (back l) ≡ true → read (pos 2 *ℤ read (back l)) -ℤ pos 2 ≡ pos (place_of l)
unfolding place_of
place_positive {l} f e = rw (double f) (go l (rw (to_z-of_z f) at e))
  where
    go : (z : ℤ) → lt_z (pos 0) z ≡ true → pos 2 *ℤ z -ℤ pos 2 ≡ pos (place_of z)
    go (pos zero) e = absurd (subst T (sym e) tt)
    go (pos (suc k)) e = rw (le-ltb (2 * suc k) 2 (omega arith)) (ap pos (omega arith))
    go (negsuc k) e = absurd (subst T (sym e) tt)

-- it failed
pub place_negative : {l : ℤ} → SFits w16 l → 1 ≤ nat_abs l → lt_z (pos 0) (back l) ≡ false → negsuc 0 -ℤ read (pos 2 *ℤ read (back l)) ≡ pos (place_of l)
unfolding place_of
place_negative {l} f h e = rw (double f) (go l h (rw (to_z-of_z f) at e))
  where
    go : (z : ℤ) → 1 ≤ nat_abs z → lt_z (pos 0) z ≡ false → negsuc 0 -ℤ pos 2 *ℤ z ≡ pos (place_of z)
    go (pos zero) h e = absurd (omega arith)
    go (pos (suc k)) h e = absurd (omega (arith, ltb-false 0 (suc k) e))
    go (negsuc k) h e = rw (neg_ℤ-neg_ℤ (pos (2 * suc k)), le-ltb (2 * suc k) 1 (omega arith)) (ap pos (omega arith))

-- the place of a literal of one of the symbols 1 to S
pub place_bound : (S : ℕ) (l : ℤ) → 1 ≤ nat_abs l → nat_abs l ≤ S → place_of l < 2 * S
unfolding place_of
place_bound S (pos s) h k = omega arith
place_bound S (negsuc n) h k = omega arith

-- ---- the literal at a place

literal_even : (p : ℕ) → p % 2 ≡ 0 → literal_at p ≡ pos (suc (p / 2))
unfolding literal_at
literal_even p h = rw (eq-eqb _ _ h)

literal_odd : (p : ℕ) → (p % 2 ≡ 0 → ⊥) → literal_at p ≡ negsuc (p / 2)
unfolding literal_at
literal_odd p h = rw (ne_eqb _ _ h)

pub place_of_literal : PlaceOfLiteral
unfolding place_of
place_of_literal p = ⊎_elim (λ h. rw (literal_even p h) (omega arith)) (λ h. rw (literal_odd p h) (omega arith)) (even_or_odd p)

pub literal_at_place : LiteralAtPlace
unfolding place_of
literal_at_place (pos zero) h = absurd (omega arith)
literal_at_place (pos (suc k)) h = literal_even (place (suc k) true) (omega arith) ∙ ap (λ n. pos (suc n)) (omega arith)
literal_at_place (negsuc k) h = literal_odd (place (suc k) false) (omega arith) ∙ ap negsuc (omega arith)

-- the number of its symbol
pub literal_abs : (p : ℕ) → nat_abs (literal_at p) ≡ suc (p / 2)
literal_abs p = ⊎_elim (λ h. rw (literal_even p h)) (λ h. rw (literal_odd p h)) (even_or_odd p)

pub literal_nonzero : (p : ℕ) → 1 ≤ nat_abs (literal_at p)
literal_nonzero p = omega (arith, literal_abs p)

pub literal_symbol : (S p : ℕ) → p < 2 * S → nat_abs (literal_at p) ≤ S
literal_symbol S p h = omega (arith, literal_abs p)
