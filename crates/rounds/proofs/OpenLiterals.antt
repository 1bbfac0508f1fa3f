-- Laws of the open literals of a row: which literals the row gives, and how a scan finds them.
use Rattle.meaning.proofs.Kit.{◌≡◌, ◌∙◌, sym, ap, refl, subst, ⊎_elim, inl, inr, ◌⊎◌, ◌≢◌, true, false, Bool, cond, ◌&&◌, ◌||◌, and-true, List, []}
use Rattle.meaning.proofs.Kit.{◌∷◌, In, here, there, in_nil, in_cons, ◌≤◌, ℕ, arith, eqb, ℤ, pos, nat_abs, w16, SFits, to_z, of_z, to_z-of_z, ne_eqb}
use Rattle.meaning.proofs.Kit.{eq-eqb, eqb-true, eqb-false}
use Rattle.meaning.specs.Tests.{member}
use Rattle.meaning.specs.Literals.{opp, has}
use Rattle.meaning.specs.Rounds.{gives}
use Rattle.meaning.proofs.Tests.{true_or_false, or_right, false_of, clash, same_test, all_of}
use Rattle.meaning.proofs.Gives.{gives_words, gives_of}
use Rattle.literals.specs.Literal.{place_of, literal_at}
use Rattle.literals.proofs.Signed.{small_abs, zero_bits, bits_zero}
use Rattle.literals.proofs.Places.{literal_at_place}
use Rattle.rounds.specs.Ranks.{open_after, open_in}
use Rattle.rounds.specs.declared.marks.Open.{Open}
use Rattle.rounds.specs.declared.marks.Open.TheVariants.{Nothing, One, More}
use Rattle.literals.proofs.Scanning.{number_at, Literal}

-- ---- what the open literals say of the row

-- no literal of the row is open, only q is, or two are
abbrev OpenIs : List Bool → List ℕ → Open → Type 0
OpenIs known row Nothing = (q : ℕ) → In q row → has known (opp q) ≡ true
OpenIs known row (One p) = In p row × (has known (opp p) ≡ false) × ((q : ℕ) → In q row → (q ≡ p) ⊎ (has known (opp q) ≡ true))
OpenIs known row More = (p : ℕ) × (q : ℕ) × (In p row) × (In q row) × (p ≢ q) × (has known (opp p) ≡ false) × (has known (opp q) ≡ false)

module _ (known : List Bool) where
  -- what holds of every literal of the row, and of q
  each : (P : ℕ → Type 0) (q : ℕ) (row : List ℕ) → P q → ((x : ℕ) → In x row → P x) → (x : ℕ) → In x (q ∷ row) → P x
  each P q row here-q rest x m = ⊎_elim (λ e. rw e here-q) (λ n. rest x n) (in_cons m)

  open_known : (q : ℕ) (row : List ℕ) (o : Open) → has known (opp q) ≡ true → OpenIs known row o → OpenIs known (q ∷ row) o
  open_known q row Nothing h w = each (λ x. has known (opp x) ≡ true) q row h w
  open_known q row (One p) h w = (there w.0, w.1, each (λ x. (x ≡ p) ⊎ (has known (opp x) ≡ true)) q row (inr h) w.2)
  open_known q row More h w = (w.0, w.1, there w.2, there w.3, w.4, w.5, w.6)

  open_more : (q : ℕ) (row : List ℕ) (o : Open) → has known (opp q) ≡ false → OpenIs known row o → OpenIs known (q ∷ row) (open_after q o)
  open_more q row Nothing h w = (here refl, h, each (λ x. (x ≡ q) ⊎ (has known (opp x) ≡ true)) q row (inl refl) (λ x m. inr (w x m)))
  open_more q row (One p) h w =
      let others = each (λ x. (x ≡ q) ⊎ (has known (opp x) ≡ true)) q row (inl refl) in
      ⊎_elim (λ e. rw e (here refl, h, others (λ x m. ⊎_elim (λ d. inl (d ∙ sym (eqb-true q p e))) (λ d. inr d) (w.2 x m))))
      (λ e. rw e (q, p, here refl, there w.0, eqb-false q p e, h, w.1))
      (true_or_false (eqb q p))
  open_more q row More h w = (w.0, w.1, there w.2, there w.3, w.4, w.5, w.6)

  open_is : (row : List ℕ) → OpenIs known row (open_in known row)
  unfolding open_in
  open_is [] = λ q m. absurd (in_nil m)
  open_is (q ∷ row) =
      ⊎_elim (λ h. rw h (open_known q row (open_in known row) h (open_is row))) (λ h. rw h (open_more q row (open_in known row) h (open_is row)))
      (true_or_false (has known (opp q)))

  is : (row : List ℕ) (o : Open) → o ≡ open_in known row → OpenIs known row o
  is row o e = subst (λ x. OpenIs known row x) (sym e) (open_is row)

  -- a row with no open literal gives all of its literals,
  pub gives_all : (row : List ℕ) → Nothing ≡ open_in known row → (p : ℕ) → gives known row p ≡ member p row
  unfolding gives
  gives_all row e p =
      let w = is row Nothing e in
      ap (λ t. member p row && t) (all_of (λ q. eqb q p || has known (opp q)) row (λ q m. or_right (eqb q p) (has known (opp q)) (w q m)))
      ∙ and-true (member p row)

  -- one with one open literal gives that one,
  pub gives_one : (row : List ℕ) (q : ℕ) → One q ≡ open_in known row → (p : ℕ) → gives known row p ≡ eqb q p
  gives_one row q e p =
      let w = is row (One q) e in
      same_test (gives known row p) (eqb q p)
      (λ g. eq-eqb q p (⊎_elim (λ d. d) (λ d. clash d w.1) ((gives_words known row p g).1 q w.0)))
      (λ d. rw (← eqb-true q p d) (gives_of known row q w.0 w.2))

  -- and one with two or more gives nothing
  pub gives_nothing : (row : List ℕ) → More ≡ open_in known row → (p : ℕ) → gives known row p ≡ false
  gives_nothing row e p =
      let w = is row More e in
      false_of (gives known row p)
      (λ g. (let others = (gives_words known row p g).1 in
      ⊎_elim (λ d. ⊎_elim (λ f. w.4 (d ∙ sym f)) (λ f. clash f w.6) (others w.1 w.3)) (λ d. clash d w.5) (others w.0 w.2)))

  pub one_in : (row : List ℕ) (q : ℕ) → One q ≡ open_in known row → In q row
  one_in row q e = (is row (One q) e).0

-- ---- how a scan finds them

again : (q : ℕ) (o : Open) → open_after q (open_after q o) ≡ open_after q o
again q Nothing = rw (eq-eqb q q refl)
again q (One r) = go (eqb q r)
  where
    go : (t : Bool) → open_after q (cond t (One q) More) ≡ cond t (One q) More
    go true = rw (eq-eqb q q refl)
    go false = refl
again q More = refl

two : (p q : ℕ) (o : Open) → p ≢ q → open_after p (open_after q o) ≡ More
two p q Nothing d = rw (ne_eqb p q d)
two p q (One r) d = go (eqb q r)
  where
    go : (t : Bool) → open_after p (cond t (One q) More) ≡ More
    go true = rw (ne_eqb p q d)
    go false = refl
two p q More d = refl

-- the open literals of the row are those of what is left of it, with the literal z that was found: `one` is its 16 bits, 0 for none
pub record Found (known : List Bool) (row left : List ℕ) (one : ℕ) : Type 0 where
  z : ℤ
  bits : one ≡ of_z w16 z
  small : nat_abs z ≤ 200
  is : open_in known row ≡ cond (eqb (nat_abs z) 0) (open_in known left) (open_after (place_of z) (open_in known left))

pub found_none : {known : List Bool} {row : List ℕ} → Found known row row 0
found_none = record { z = pos 0; bits = refl; small = omega arith; is = refl }

module _ {known : List Bool} {row left : List ℕ} {one : ℕ} (w : Found known row left one) where
  fits : SFits w16 w.z
  fits = small_abs w.z (omega (arith, w.small))

  back_one : to_z w16 one ≡ w.z
  back_one = ap (to_z w16) w.bits ∙ to_z-of_z fits

  one_none : one ≡ 0 → nat_abs w.z ≡ 0
  one_none e = zero_bits fits (sym w.bits ∙ e)

  one_some : (one ≡ 0 → ⊥) → nat_abs w.z ≡ 0 → ⊥
  one_some n e = n (w.bits ∙ bits_zero w.z e)

  -- what was found can be placed
  pub one_allowed : (one ≡ 0 → ⊥) → (1 ≤ nat_abs (to_z w16 one)) × (nat_abs (to_z w16 one) ≤ 200)
  one_allowed n = let some = one_some n in rw back_one (omega arith, w.small)

module _ {known : List Bool} {row left : List ℕ} {q one : ℕ} (w : Found known row (q ∷ left) one) where
  pub found_known : has known (opp q) ≡ true → Found known row left one
  unfolding open_in
  found_known h = record { z = w.z; bits = w.bits; small = w.small; is = rw h at w.is }

  -- the literal at the front of what is left is open
  module _ {places : ℕ} {table : List ℤ} {r j : ℕ} (l : Literal places table r j q) (h : has known (opp q) ≡ false) where
    -- it is the first, or the one that was found again
    pub found_one : (one ≡ 0) ⊎ (one ≡ of_z w16 (number_at table r j)) → Found known row left (of_z w16 (number_at table r j))
    unfolding open_in
    found_one f =
        record {
          z = number_at table r j;
          bits = refl;
          small = l.few;
          is = rw (ne_eqb (nat_abs (number_at table r j)) 0 (λ e. omega (arith, e, l.some)), ← l.is_place)
              ((rw h at w.is) ∙ go (eqb (nat_abs w.z) 0) (⊎_elim (λ e. inl (eq-eqb _ 0 (one_none w e))) (λ e. inr (same e)) f));
        }
      where
        same : one ≡ of_z w16 (number_at table r j) → place_of w.z ≡ q
        same e = ap place_of (sym (back_one w) ∙ ap (to_z w16) e ∙ to_z-of_z l.fits) ∙ sym l.is_place

        go : (t : Bool) → (t ≡ true) ⊎ (place_of w.z ≡ q)
            → cond t (open_after q (open_in known left)) (open_after (place_of w.z) (open_after q (open_in known left)))
            ≡ open_after q (open_in known left)
        go true f = refl
        go false (inl f) = clash f refl
        go false (inr f) = rw f (again q (open_in known left))

    pub found_two : (one ≡ 0 → ⊥) → (one ≡ of_z w16 (number_at table r j) → ⊥) → More ≡ open_in known row
    unfolding open_in
    found_two n d = sym ((rw (h, ne_eqb (nat_abs w.z) 0 (one_some w n)) at w.is) ∙ two (place_of w.z) q (open_in known left) apart)
      where
        -- places tell literals apart
        apart : place_of w.z ≢ q
        apart e =
            let nonzero = one_some w n in
            let same = sym (literal_at_place w.z (omega arith)) ∙ ap literal_at (e ∙ l.is_place)
            ∙ literal_at_place (number_at table r j) l.some in
            d (w.bits ∙ ap (of_z w16) same)

-- nothing is left
module _ {known : List Bool} {row : List ℕ} {one : ℕ} (w : Found known row [] one) where
  pub found_some : (one ≡ 0 → ⊥) → {p : ℕ} → p ≡ place_of (to_z w16 one) → One p ≡ open_in known row
  unfolding open_in
  found_some n e = ap One (e ∙ ap place_of (back_one w)) ∙ sym (rw (ne_eqb (nat_abs w.z) 0 (one_some w n)) at w.is)

  pub found_nothing : one ≡ 0 → Nothing ≡ open_in known row
  unfolding open_in
  found_nothing e = sym (rw (eq-eqb (nat_abs w.z) 0 (one_none w e)) at w.is)
