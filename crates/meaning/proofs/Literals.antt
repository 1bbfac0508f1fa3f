-- Laws of places and opposites, and of sets of literals.
use Rattle.meaning.proofs.Kit.{◌≡◌, refl, ⊎_elim, inl, inr, ◌⊎◌, true, false, Bool, ◌&&◌, not, false≢true, List, [], ◌∷◌, ◌≤◌, ℕ, ◌<◌, ◌-◌}
use Rattle.meaning.proofs.Kit.{◌+◌, suc, ◌*◌, zero, ◌/◌, ◌%◌, zero-le, arith, eqb, length, ext_get_or, ne_eqb, eq-eqb, eqb-true, eqb-false}
use Prim.Native.Nat.{suc-le-suc}
use Rattle.meaning.specs.Literals.{place, opp, has, Within, conflict}
use Rattle.meaning.proofs.Tests.{true_or_false, both_true, and_intro, one_true_lem, or_left, or_right, clash, same_test}

-- ---- the opposite place

pub opp_even : (p : ℕ) → p % 2 ≡ 0 → opp p ≡ p + 1
unfolding opp
opp_even p h = rw (eq-eqb _ _ h)

pub opp_odd : (p : ℕ) → (p % 2 ≡ 0 → ⊥) → opp p ≡ p - 1
unfolding opp
opp_odd p h = rw (ne_eqb _ _ h)

pub even_or_odd : (p : ℕ) → (p % 2 ≡ 0) ⊎ (p % 2 ≡ 0 → ⊥)
even_or_odd p = ⊎_elim (λ e. inl (eqb-true (p % 2) 0 e)) (λ e. inr (eqb-false (p % 2) 0 e)) (true_or_false (eqb (p % 2) 0))

-- the opposite's opposite is the literal
pub opp_opp : (p : ℕ) → opp (opp p) ≡ p
opp_opp p =
    ⊎_elim (λ e. let a = opp_even p e in omega (arith, a, opp_odd (opp p) (omega arith)))
    (λ o. let a = opp_odd p o in omega (arith, a, opp_even (opp p) (omega arith))) (even_or_odd p)

-- the opposite of one of an even number of places is another of them
pub opp_in : (p places : ℕ) → places % 2 ≡ 0 → p < places → opp p < places
opp_in p places e h = ⊎_elim (λ v. omega (arith, opp_even p v)) (λ d. omega (arith, opp_odd p d)) (even_or_odd p)

opp_on : (p : ℕ) → opp (suc (suc p)) ≡ suc (suc (opp p))
opp_on p =
    ⊎_elim (λ v. omega (arith, opp_even p v, opp_even (suc (suc p)) (omega arith)))
    (λ d. omega (arith, opp_odd p d, opp_odd (suc (suc p)) (omega arith)))
    (even_or_odd p)

-- ---- the literals of a symbol

pub opp_place : (s : ℕ) (b : Bool) → opp (place s b) ≡ place s (not b)
opp_place s true = opp_even (2 * (s - 1)) (omega arith)
opp_place s false = omega (arith, opp_odd (2 * (s - 1) + 1) (omega arith))

pub place_below : (S s : ℕ) (b : Bool) → zero < s → s ≤ S → place s b < 2 * S
place_below S s true h g = omega arith
place_below S s false h g = omega arith

-- places tell symbols and truth values apart
pub place_same : (s t : ℕ) (b c : Bool) → zero < s → zero < t → place s b ≡ place t c → (s ≡ t) × (b ≡ c)
place_same s t true true h g e = (omega arith, refl)
place_same s t true false h g e = absurd (omega arith)
place_same s t false true h g e = absurd (omega arith)
place_same s t false false h g e = (omega arith, refl)

-- ---- sets of literals

pub has_below : (known : List Bool) (p : ℕ) → has known p ≡ true → p < length known
has_below [] p e = absurd (false≢true e)
has_below (x ∷ known) zero e = suc-le-suc zero-le
has_below (x ∷ known) (suc p) e = suc-le-suc (has_below known p e)

pub same_set : (a b : List Bool) → length a ≡ length b → Within a b → Within b a → a ≡ b
same_set a b e v w = ext_get_or false a b e (λ p h. same_test (has a p) (has b p) (v p) (w p))

-- ---- conflict

pub conflict_at : (known : List Bool) (p : ℕ) → has known p ≡ true → has known (opp p) ≡ true → conflict known ≡ true
conflict_at [] p e f = absurd (false≢true e)
conflict_at (a ∷ []) zero e f = absurd (false≢true (rw (opp_even 0 refl) at f))
conflict_at (a ∷ []) (suc p) e f = absurd (false≢true e)
conflict_at (a ∷ b ∷ known) zero e f = or_left (a && b) (conflict known) (and_intro a b e (rw (opp_even 0 refl) at f))
conflict_at (a ∷ b ∷ known) (suc zero) e f = or_left (a && b) (conflict known) (and_intro a b (rw (opp_odd 1 (omega arith)) at f) e)
conflict_at (a ∷ b ∷ known) (suc (suc p)) e f = or_right (a && b) (conflict known) (conflict_at known p e (rw (opp_on p) at f))

pub conflict_found : (known : List Bool) → conflict known ≡ true → (p : ℕ) × (has known p ≡ true) × (has known (opp p) ≡ true)
conflict_found [] e = absurd (false≢true e)
conflict_found (a ∷ []) e = absurd (false≢true e)
conflict_found (a ∷ b ∷ known) e =
    ⊎_elim (λ h. let r = both_true a b h in (zero, r.0, rw (opp_even 0 refl) r.1))
    (λ h. let r = conflict_found known h in (suc (suc r.0), r.1, rw (opp_on r.0) r.2)) (one_true_lem (a && b) (conflict known) e)

-- both literals of some symbol, counted from 0
pub conflict_pair : (known : List Bool) → conflict known ≡ true → (s : ℕ) × (has known (2 * s) ≡ true) × (has known (2 * s + 1) ≡ true)
conflict_pair known c = let r = conflict_found known c in let both = pair r.0 r.1 r.2 in (r.0 / 2, both.0, both.1)
  where
    pair : (p : ℕ) → has known p ≡ true → has known (opp p) ≡ true → (has known (2 * (p / 2)) ≡ true) × (has known (2 * (p / 2) + 1) ≡ true)
    pair p a b =
        ⊎_elim
        (λ e. (let here : 2 * (p / 2) ≡ p = omega arith in rw here (a, rw (opp_even p e) at b)))
        (λ e. (let here : 2 * (p / 2) ≡ p - 1 = omega arith in
        let next : p - 1 + 1 ≡ p = omega arith in rw here (rw (opp_odd p e) at b, rw next a)))
        (even_or_odd p)

-- where there is no conflict, a literal of the set keeps its opposite out
pub opposite_out : (known : List Bool) (p : ℕ) → conflict known ≡ false → has known p ≡ true → has known (opp p) ≡ false
opposite_out known p c h = ⊎_elim (λ e. clash (conflict_at known p h e) c) (λ e. e) (true_or_false (has known (opp p)))

pub conflict_within : (a b : List Bool) → Within a b → conflict a ≡ true → conflict b ≡ true
conflict_within a b w e = let r = conflict_found a e in conflict_at b r.0 (w r.0 r.1) (w (opp r.0) r.2)
