-- On a board with only position variables and pair tables the rows derive a conflict just where the removal of positions empties a variable; where
-- they derive none, they rule out just the removed positions.
use Rattle.meaning.proofs.Kit.{◌≡◌, ◌∙◌, sym, ap, refl, subst, ⊎_elim, inl, inr, ◌⊎◌, ◌≢◌, true, false, Bool, not, false≢true, true≢false, List, In}
use Rattle.meaning.proofs.Kit.{here, there, in_cons, in_one, ℕ, ◌<◌, suc, zero, arith, eqb, eqb-true, eqb-false}
use mathlib.Core.Path.{subst₃}
use Rattle.meaning.specs.Tests.{all}
use Rattle.meaning.specs.Literals.{place, opp, has}
use Rattle.positions.specs.Positions.{Variable, symbol_at, on, off, PairTable, Side, sides, pair_row, Entry, positions, pairs, suits}
use Rattle.meaning.specs.Promises.{premise, by_row, Conflict}
use Rattle.positions.specs.Promises.{by_other, by_own, by_pairs, Removed, Emptied, Fitting, DerivedBy, ConflictEmptied, RuledOutRemoved}
use Rattle.positions.specs.Promises.{BothEmpty}
use Rattle.meaning.proofs.Tests.{true_or_false, clash}
use Rattle.meaning.proofs.Tables.{below_suc}
use Rattle.meaning.proofs.Literals.{opp_place}
use Rattle.positions.proofs.Turns.{in_made, made_in}
use Rattle.positions.proofs.RowKinds.{one_taken, not_both, own_in_row, partner_in_row, pair_row_in, Kind, least, most, pair, kind}
use Rattle.positions.proofs.RemovedDerived.{same_position, joined_side, removed_derived, emptied_conflict}

-- the other side of a pair table
abbrev turned : Side → Side
turned s = record { own = s.partner; partner = s.own; may = λ (i j : ℕ). s.may j i }

turned_in : (t : PairTable) (s : Side) → In s (sides t) → In (turned s) (sides t)
turned_in t s m = ⊎_elim (λ e. there (here (ap turned e))) (λ n. here (ap turned (in_one n))) (in_cons m)

-- what holds at each number below n, or else something else
collect : (E : Type 0) (P : ℕ → Type 0) (n : ℕ) → ((j : ℕ) → j < n → E ⊎ P j) → E ⊎ ((j : ℕ) → j < n → P j)
collect E P zero f = inr (λ j l. absurd (omega arith))
collect E P (suc n) f = go (collect E P n (λ j l. f j (omega arith))) (f n (omega arith))
  where
    go : E ⊎ ((j : ℕ) → j < n → P j) → E ⊎ P n → E ⊎ ((j : ℕ) → j < suc n → P j)
    go (inl e) h = inl e
    go (inr a) (inl e) = inl e
    go (inr a) (inr h) = inr (below_suc P n a h)

same_or_not : (i j : ℕ) → (i ≡ j) ⊎ (i ≢ j)
same_or_not i j = ⊎_elim (λ e. inl (eqb-true i j e)) (λ e. inr (eqb-false i j e)) (true_or_false (eqb i j))

-- what holds of j unless it is i, or else something else
unless_same : {E R : Type 0} (i j : ℕ) → (j ≢ i → E ⊎ R) → E ⊎ (j ≢ i → R)
unless_same i j f = ⊎_elim (λ s. inr (λ d. absurd (d s))) (λ d. ⊎_elim inl (λ r. inr (λ o. r)) (f d)) (same_or_not j i)

-- what is derived says what is removed, or some variable is emptied
module _ (S : ℕ) (entries : List Entry) (held : List Bool) (ok : all (suits S) entries ≡ true) (fit : Fitting entries held) where
  abbrev R : Variable → ℕ → Type 0
  R x i = Removed entries held x i

  abbrev Has : Variable → Type 0
  Has x = In (positions x) entries

  -- all other positions of the variable are removed
  abbrev Alone : Variable → ℕ → Type 0
  Alone x i = (j : ℕ) → j < x.count → j ≢ i → R x j

  -- what it means that a position is taken, and that it is ruled out
  abbrev Meant : Variable → ℕ → Bool → Type 0
  Meant x i true = Alone x i
  Meant x i false = R x i

  abbrev Said : ℕ → Type 0
  Said p = (x : Variable) × (i : ℕ) × (b : Bool) × Has x × (i < x.count) × (p ≡ place (symbol_at x i) b) × Meant x i b

  abbrev Outcome : ℕ → Type 0
  Outcome p = Emptied entries held ⊎ Said p

  said_at : (x : Variable) (i : ℕ) (b : Bool) → Has x → i < x.count → Said (place (symbol_at x i) b) → Meant x i b
  said_at x i b m l w =
      let r = same_position S entries held ok fit x w.0 i w.1 b w.2 m w.3 l w.4 w.5 in
      subst₃ Meant (sym r.0) (sym r.1) (sym r.2) w.6

  by_premise : (p : ℕ) → has held p ≡ true → Said p
  by_premise p h = let w = fit.premises p h in go w.0 w.1 w.2 w.3 w.4 w.5
    where
      go : (x : Variable) (i : ℕ) (b : Bool) → Has x → i < x.count → p ≡ place (symbol_at x i) b → Said p
      go x i true m l e = (x, i, true, m, l, e, λ j k d. by_other i l (λ q. d (sym q)) (rw e at h))
      go x i false m l e = (x, i, false, m, l, e, by_own (rw e at h))

  -- a row gives a literal p: what its other literals say
  module _ (p : ℕ) (row : List ℕ) (others : (q : ℕ) → In q row → q ≢ p → Outcome (opp q)) where
    heard : (x : Variable) (i : ℕ) (b : Bool) → Has x → i < x.count → In (place (symbol_at x i) b) row → place (symbol_at x i) b ≢ p
        → Emptied entries held ⊎ Meant x i (not b)
    heard x i b m l n d =
        ⊎_elim inl (λ w. inr (said_at x i (not b) m l w))
        (subst Outcome (opp_place (symbol_at x i) b) (others (place (symbol_at x i) b) n d))

    -- literals of two positions, or of two signs, differ
    other_place : (x y : Variable) (i j : ℕ) (b c : Bool) → Has x → Has y → i < x.count → j < y.count → p ≡ place (symbol_at y j) c
        → ((x ≡ y) × (i ≡ j) × (b ≡ c) → ⊥) → place (symbol_at x i) b ≢ p
    other_place x y i j b c m k l n q d e = d (same_position S entries held ok fit x y i j b c m k l n (e ∙ q))

    -- the row that one position is taken
    by_least : (x : Variable) → Has x → row ≡ one_taken x → In p row → Outcome p
    by_least x m e k =
        let r = made_in (on x) x.count (rw e at k) in
        ⊎_elim inl (λ a. inr (x, r.0, true, m, r.1, r.2, a))
        (collect (Emptied entries held) (λ j. j ≢ r.0 → R x j) x.count (each r.0 r.1 r.2))
      where
        each : (i : ℕ) → i < x.count → p ≡ on x i → (j : ℕ) → j < x.count → Emptied entries held ⊎ (j ≢ i → R x j)
        each i l q j b =
            unless_same i j
            (λ d. heard x j true m b (rw e (in_made (on x) x.count j b)) (other_place x x j i true true m m b l q (λ s. d s.1)))

    -- the row that not both of two positions are: where one is taken, the other is ruled out
    off_by : (x : Variable) (i j : ℕ) → Has x → i < x.count → j < x.count → i ≢ j → In (off x j) row → p ≡ off x i → Outcome p
    off_by x i j m a b d n q =
        ⊎_elim inl (λ h. inr (x, i, false, m, a, q, h i a d))
        (heard x j false m b n (other_place x x j i false false m m b a q (λ s. d (sym s.1))))

    by_most : (x : Variable) (i j : ℕ) → Has x → i < j → j < x.count → row ≡ not_both x i j → In p row → Outcome p
    by_most x i j m l b e k =
        let a : i < x.count = omega arith in
        ⊎_elim (off_by x i j m a b (λ s. omega arith) (rw e (there (here refl))))
        (λ n. off_by x j i m b a (λ s. omega arith) (rw e (here refl)) (in_one n)) (in_cons (rw e at k))

    -- the row of a position in a pair table
    module _ (t : PairTable) (s : Side) (i : ℕ) (m : In (pairs t) entries) (k : In s (sides t)) (l : i < s.own.count) (e : row ≡ pair_row s i) where
      own : Has s.own
      own = (joined_side S entries held ok fit t s m k).0

      partner : Has s.partner
      partner = (joined_side S entries held ok fit t s m k).1

      -- none that it may stand with is left
      by_position : p ≡ off s.own i → Outcome p
      by_position q =
          ⊎_elim inl (λ a. inr (s.own, i, false, own, l, q, by_pairs t s m k refl a))
          (collect (Emptied entries held) (λ j. s.may i j ≡ true → R s.partner j) s.partner.count (λ j b. each j b (s.may i j) refl))
        where
          each : (j : ℕ) → j < s.partner.count → (f : Bool) → s.may i j ≡ f → Emptied entries held ⊎ (s.may i j ≡ true → R s.partner j)
          each j b true f =
              ⊎_elim inl (λ r. inr (λ o. r))
              (heard s.partner j true partner b (rw e (partner_in_row s i j b f))
              (other_place s.partner s.own j i true false partner own b l q (λ o. true≢false o.2)))
          each j b false f = inr (λ o. clash o f)

      -- it stands alone, and of those that it may stand with all but one are removed: one that it may not stand with loses all partners
      by_partner : (j : ℕ) → j < s.partner.count → p ≡ on s.partner j → Outcome p
      by_partner j b q =
          ⊎_elim inl
          (λ alone. ⊎_elim inl (λ a. inr (s.partner, j, true, partner, b, q, a))
          (collect (Emptied entries held) (λ h. h ≢ j → R s.partner h) s.partner.count (λ h c. each alone h c (s.may i h) refl)))
          (heard s.own i false own l (rw e (own_in_row s i))
          (other_place s.own s.partner i j false true own partner l b q (λ o. false≢true o.2)))
        where
          lost : Alone s.own i → (h : ℕ) → s.may i h ≡ false → R s.partner h
          lost alone h g =
              by_pairs t (turned s) m (turned_in t s k) refl (λ n c o. alone n c (λ r. clash (subst (λ (z : ℕ). s.may z h ≡ true) r o) g))

          each : Alone s.own i → (h : ℕ) → h < s.partner.count → (g : Bool) → s.may i h ≡ g → Emptied entries held ⊎ (h ≢ j → R s.partner h)
          each alone h c true g =
              unless_same j h
              (λ d. heard s.partner h true partner c (rw e (partner_in_row s i h c g))
              (other_place s.partner s.partner h j true true partner partner c b q (λ o. d o.1)))
          each alone h c false g = inr (λ d. lost alone h g)

      by_pair : In p row → Outcome p
      by_pair n = ⊎_elim by_position (λ w. by_partner w.0 w.1 w.3) (pair_row_in s i p (rw e at n))

    by_kind : Kind entries row → In p row → Outcome p
    by_kind (least x m e) = by_least x m e
    by_kind (most x i j m l b e) = by_most x i j m l b e
    by_kind (pair t s i m k l e) = by_pair t s i m k l e

  outcome : {p : ℕ} → DerivedBy S entries held p → Outcome p
  outcome (premise {p = p} l h) = inr (by_premise p h)
  outcome (by_row {p = p} row m i l others) = by_kind p row (λ q n d. outcome (others q n d)) (kind S entries ok row m) i

  -- a position that is taken and ruled out is of a variable that is emptied
  both_meant : (x : Variable) (i : ℕ) (b : Bool) → Has x → i < x.count → Meant x i b → Meant x i (not b) → Emptied entries held
  both_meant x i true m l a r = (x, m, λ j b. ⊎_elim (λ e. subst (R x) (sym e) r) (a j b) (same_or_not j i))
  both_meant x i false m l r a = (x, m, λ j b. ⊎_elim (λ e. subst (R x) (sym e) r) (a j b) (same_or_not j i))

  derived_emptied : Conflict (DerivedBy S entries held) → Emptied entries held
  derived_emptied c = ⊎_elim (λ e. e) (λ w. go w c.2) (outcome c.1)
    where
      go : Said c.0 → DerivedBy S entries held (opp c.0) → Emptied entries held
      go w d =
          ⊎_elim (λ e. e)
          (λ v. both_meant w.0 w.1 w.2 w.3 w.4 w.6 (said_at w.0 w.1 (not w.2) w.3 w.4 v))
          (subst Outcome (ap opp w.5 ∙ opp_place (symbol_at w.0 w.1) w.2) (outcome d))

pub conflict_emptied : ConflictEmptied
conflict_emptied S entries held ok fit = (derived_emptied S entries held ok fit, emptied_conflict S entries held ok fit)

pub ruled_out_removed : RuledOutRemoved
ruled_out_removed S entries held ok fit peace x i m l = (
  λ d.
      ⊎_elim (λ e. absurd (peace (emptied_conflict S entries held ok fit e))) (said_at S entries held ok fit x i false m l)
      (outcome S entries held ok fit d),
  λ r. removed_derived S entries held ok fit r m l,
)

pub both_empty : BothEmpty
both_empty entries held x i m l h g = (x, m, λ j b. ⊎_elim (λ e. rw e (by_own g)) (λ d. by_other i l (λ q. d (sym q)) h) (same_or_not j i))
