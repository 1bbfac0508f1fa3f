-- No place of the candidates stands twice just if no literal of them does; then none of a set's does.
use Rattle.meaning.proofs.Kit.{◌≡◌, ◌∙◌, sym, ap, refl, subst, ⊎_elim, true, false, Bool, cond, false≢true, List, [], ◌∷◌, In, ◌≤◌, ℕ, ◌<◌, suc, zero}
use Rattle.meaning.proofs.Kit.{◌/◌, arith, eqb, ℤ, pos, nat_abs, length, get_or, length-map, eqb-true}
use Rattle.meaning.specs.Tests.{member, odd}
use Rattle.candidates.specs.Sets.{chosen}
use Rattle.meaning.proofs.Tests.{both_false, one_true_lem, or_left, or_right, false_of, clash, in_at, all_at, member_in, in_member}
use Rattle.candidates.proofs.ChosenSets.{chosen_in}
use Rattle.meaning.proofs.Tables.{le_or_lt}
use Rattle.literals.specs.Literal.{in_range, place_of, literal_at}
use Rattle.literals.proofs.Places.{literal_at_place}
use Rattle.literals.proofs.Arguments.{range_facts}
use Rattle.candidates.specs.Given.{places_of, repeats}
use Rattle.candidates.specs.Promises.{AllDifferent}

place_at : (cands : List ℤ) (i : ℕ) → i < length cands → get_or (places_of cands) i 0 ≡ place_of (get_or cands i (pos 0))
place_at [] i l = absurd (omega arith)
place_at (c ∷ cands) zero l = refl
place_at (c ∷ cands) (suc i) l = place_at cands i (omega arith)

-- where a place stands among others, and where one stands twice
found_at : (p : ℕ) (places : List ℕ) → member p places ≡ true → (j : ℕ) × (j < length places) × (get_or places j 0 ≡ p)
found_at p [] e = absurd (false≢true e)
found_at p (q ∷ places) e =
    ⊎_elim (λ h. (0, omega arith, eqb-true q p h)) (λ h. let r = found_at p places h in (suc r.0, omega (arith, r.1), r.2))
    (one_true_lem (eqb q p) (member p places) e)

repeats_found : (places : List ℕ) → repeats places ≡ true → (i : ℕ) × (j : ℕ) × (i < j) × (j < length places) × (get_or places i 0 ≡ get_or places j 0)
repeats_found [] e = absurd (false≢true e)
repeats_found (p ∷ places) e =
    ⊎_elim (λ h. let r = found_at p places h in (0, suc r.0, omega arith, omega (arith, r.1), sym r.2))
    (λ h. let r = repeats_found places h in (suc r.0, suc r.1, omega (arith, r.2), omega (arith, r.3), r.4))
    (one_true_lem (member p places) (repeats places) e)

repeats_at : (places : List ℕ) (i j : ℕ) → i < j → j < length places → get_or places i 0 ≡ get_or places j 0 → repeats places ≡ true
repeats_at [] i j h l e = absurd (omega arith)
repeats_at (p ∷ places) i zero h l e = absurd (omega arith)
repeats_at (p ∷ places) zero (suc j) h l e =
    or_left (member p places) (repeats places) (in_member (subst (λ (q : ℕ). In q places) (sym e) (in_at places j 0 (omega arith))))
repeats_at (p ∷ places) (suc i) (suc j) h l e = or_right (member p places) (repeats places) (repeats_at places i j (omega arith) (omega arith) e)

-- of different candidates those of a set are different
pub chosen_different : (places : List ℕ) (m : ℕ) → repeats places ≡ false → repeats (chosen places m) ≡ false
chosen_different [] m e = e
chosen_different (p ∷ places) m e = go (odd m) (chosen_different places (m / 2) (both_false (member p places) (repeats places) e).1)
  where
    out : member p (chosen places (m / 2)) ≡ false
    out =
        false_of (member p (chosen places (m / 2)))
        (λ h. clash (in_member (chosen_in places (m / 2) (member_in p (chosen places (m / 2)) h)))
        (both_false (member p places) (repeats places) e).0)

    go : (b : Bool) → repeats (chosen places (m / 2)) ≡ false → repeats (cond b (p ∷ chosen places (m / 2)) (chosen places (m / 2))) ≡ false
    go true h = rw (out, h)
    go false h = h

pub all_different : AllDifferent
all_different S cands range = (to, back)
  where
    long : length (places_of cands) ≡ length cands
    long = length-map cands place_of

    to : repeats (places_of cands) ≡ false → (i j : ℕ) → i < length cands → j < length cands → get_or cands i (pos 0) ≡ get_or cands j (pos 0) → i ≡ j
    to e i j a b same =
        let places = place_at cands i a ∙ ap place_of same ∙ sym (place_at cands j b) in
        ⊎_elim
        (λ h. ⊎_elim (λ k. omega arith) (λ k. clash (repeats_at (places_of cands) i j k (omega (arith, long)) places) e) (le_or_lt j i))
        (λ h. clash (repeats_at (places_of cands) j i h (omega (arith, long)) (sym places)) e)
        (le_or_lt i j)

    some : (i : ℕ) → i < length cands → 1 ≤ nat_abs (get_or cands i (pos 0))
    some i l = (range_facts S (get_or cands i (pos 0)) (all_at (in_range S) range (in_at cands i (pos 0) l))).0

    back : ((i j : ℕ) → i < length cands → j < length cands → get_or cands i (pos 0) ≡ get_or cands j (pos 0) → i ≡ j) → repeats (places_of cands) ≡ false
    back f = false_of (repeats (places_of cands)) twice
      where
        twice : repeats (places_of cands) ≡ true → ⊥
        twice e =
            let r = repeats_found (places_of cands) e in
            let a : r.0 < length cands = omega (arith, long, r.2, r.3) in
            let b : r.1 < length cands = omega (arith, long, r.3) in
            let places = sym (place_at cands r.0 a) ∙ r.4 ∙ place_at cands r.1 b in
            let same = sym (literal_at_place (get_or cands r.0 (pos 0)) (some r.0 a)) ∙ ap literal_at places
            ∙ literal_at_place (get_or cands r.1 (pos 0)) (some r.1 b) in
            omega (arith, r.2, f r.0 r.1 a b same)
