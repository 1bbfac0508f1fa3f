-- The removal by rounds is the removal with no rounds, so what the rows derive can be computed by it.
use Rattle.meaning.proofs.Kit.{◌≡◌, ◌∙◌, sym, ap, refl, subst, subst₂, ⊎_elim, inl, inr, ◌⊎◌, ◌↔◌, true, false, Bool, ◌&&◌, not, ◌||◌, false≢true}
use Rattle.meaning.proofs.Kit.{List, In, ℕ, ◌<◌, ◌-◌, suc, ◌*◌, zero, arith, eqb, ne_eqb, not-true, eqb-false}
use Rattle.meaning.specs.Tests.{any, all, member, from, tabulate}
use Rattle.meaning.specs.Literals.{place, has, conflict}
use Rattle.meaning.specs.Clauses.{all_rows}
use Rattle.meaning.specs.Rounds.{reached, derived}
use Rattle.meaning.specs.SecondWay.{rules_of}
use Rattle.positions.specs.Positions.{Variable, symbol_at, on, off, symbols_in, Side, sides, Entry, positions, pairs, formulae_of_all, suits}
use Rattle.positions.specs.Removal.{premise_removes, side_removes, pairs_remove, removed, emptied_by, emptied}
use Rattle.positions.specs.Promises.{Removed, Emptied, Fitting, DerivedBy, RemovedIs, RemovalComputed, by_other, by_own, by_pairs}
use Rattle.meaning.proofs.Tests.{both_true, and_intro, one_true_lem, or_left, or_right, not_intro, clash, same_test, any_found, any_at, all_at, all_of}
use Rattle.meaning.proofs.Tests.{in_member, member_in, from_in, in_from}
use Rattle.meaning.proofs.Tables.{get_d_tabulate}
use Rattle.meaning.proofs.Rounds.{closed, premises_in, start_cases, round_cases}
use Rattle.meaning.proofs.Derived.{derived_is}
use Rattle.meaning.proofs.DemandThree.{conflict_words, conflict_of}
use Rattle.positions.proofs.PositionRules.{suits_variable}
use Rattle.positions.proofs.RemovedDerived.{joined_side}
use Rattle.positions.proofs.Positions.{conflict_emptied, ruled_out_removed}

-- ---- the symbols of a variable

symbol_in_lem : (x : Variable) (i : ℕ) → i < x.count → In (symbol_at x i) (symbols_in x)
symbol_in_lem x i l = in_from x.first x.count (symbol_at x i) (omega arith) (omega arith)

position_of : (x : Variable) (s : ℕ) → In s (symbols_in x) → (i : ℕ) × (i < x.count) × (s ≡ symbol_at x i) × (i ≡ s - x.first)
position_of x s m = let b = from_in x.first x.count s m in (s - x.first, omega arith, omega arith, refl)

module _ (S : ℕ) (entries : List Entry) (held : List Bool) (ok : all (suits S) entries ≡ true) (fit : Fitting entries held) where
  abbrev R : Variable → ℕ → Type 0
  R x i = Removed entries held x i

  abbrev Has : Variable → Type 0
  Has x = In (positions x) entries

  abbrev step : List Bool → ℕ → Bool
  step gone s = any (pairs_remove gone s) entries

  abbrev start : List Bool
  start = tabulate (suc S) (λ s. any (premise_removes held s) entries)

  small : (x : Variable) (i : ℕ) → Has x → i < x.count → symbol_at x i < suc S
  small x i m l = let h = suits_variable S x (all_at (suits S) ok m) in omega arith

  -- ---- what is removed is found by the rounds

  -- another position is held
  abbrev other : ℕ → ℕ → Bool
  other s t = not (eqb t s) && has held (place t true)

  at_start : (x : Variable) (i : ℕ) → Has x → i < x.count
      → (has held (off x i) ≡ true) ⊎ (any (other (symbol_at x i)) (symbols_in x) ≡ true) → has (removed S entries held) (symbol_at x i) ≡ true
  unfolding removed
  at_start x i m l h =
      let s = symbol_at x i in
      let a = has held (off x i) in
      let b = any (other s) (symbols_in x) in
      premises_in (suc S) step start s (small x i m l)
      (get_d_tabulate (suc S) (λ (t : ℕ). any (premise_removes held t) entries) s false (small x i m l)
      ∙ any_at (premise_removes held s) m
      (and_intro (member s (symbols_in x)) (a || b) (in_member (symbol_in_lem x i l)) (⊎_elim (or_left a b) (or_right a b) h)))

  removed_found : {x : Variable} {i : ℕ} → Removed entries held x i → Has x → i < x.count → has (removed S entries held) (symbol_at x i) ≡ true
  unfolding removed
  removed_found (by_own {x = x} {i = i} h) m l = at_start x i m l (inl h)
  removed_found (by_other {x = x} {i = i} j b d h) m l =
      let s = symbol_at x i in
      let t = symbol_at x j in
      at_start x i m l
      (inr (any_at (other s) (symbol_in_lem x j b)
      (and_intro (not (eqb t s)) (has held (on x j)) (not_intro (eqb t s) (ne_eqb t s (λ e. d (omega arith)))) h)))
  removed_found (by_pairs {x = x} {i = i} t s a k e away) m l =
      let gone = removed S entries held in
      let n : i < s.own.count = subst (λ (y : Variable). i < y.count) e l in
      let both = joined_side S entries held ok fit t s a k in
      let c = symbol_at s.own i in
      let back : c - s.own.first ≡ i = omega arith in
      let may : ℕ → Bool = s.may (c - s.own.first) in
      let lost : ℕ → Bool = λ j. not (may j) || has gone (symbol_at s.partner j) in
      let each : (j : ℕ) → j < s.partner.count → (f : Bool) → s.may i j ≡ f → lost j ≡ true =
      λ j b f. elim f as (λ (k : Bool). s.may i j ≡ k → lost j ≡ true) [
        | true ↦ λ q. or_right (not (may j)) (has gone (symbol_at s.partner j)) (removed_found (away j b q) both.1 b)
        | false ↦ λ q. or_left (not (may j)) (has gone (symbol_at s.partner j)) (not_intro (may j) (rw back q))
      ] in
      subst (λ (y : Variable). has gone (symbol_at y i) ≡ true) (sym e)
      (closed (suc S) step start c (small s.own i both.0 n)
      (any_at (pairs_remove gone c) a (any_at (side_removes gone c) k
      (and_intro (member c (symbols_in s.own)) (all lost (from 0 s.partner.count)) (in_member (symbol_in_lem s.own i n))
      (all_of lost (from 0 s.partner.count) (λ j q. let r = from_in 0 s.partner.count j q in each j (omega arith) (s.may i j) refl))))))

  -- ---- and what they find is removed

  abbrev Gone : ℕ → Type 0
  Gone s = (x : Variable) (i : ℕ) → Has x → i < x.count → s ≡ symbol_at x i → R x i

  -- a symbol's variable and position are the only ones
  only : (x y : Variable) (i j s : ℕ) → Has x → Has y → i < x.count → j < y.count → s ≡ symbol_at x i → s ≡ symbol_at y j → R y j → R x i
  only x y i j s m k l n e f r =
      let v = fit.apart x y i j m k l n (sym e ∙ f) in
      let q : j ≡ i = omega (arith, e, f, ap (λ (z : Variable). z.first) v) in
      subst₂ R (sym v) q r

  premise_gone : (s : ℕ) (e : Entry) → In e entries → premise_removes held s e ≡ true → Gone s
  premise_gone s (positions y) k h x i m l e =
      let b = both_true (member s (symbols_in y)) (has held (place s false) || any (other s) (symbols_in y)) h in
      let p = position_of y s (member_in s (symbols_in y) b.0) in
      only x y i p.0 s m k l p.1 e p.2
      (⊎_elim (λ q. by_own (rw p.2 at q)) (λ q. by_another p.0 p.2 (any_found (other s) (symbols_in y) q))
      (one_true_lem (has held (place s false)) (any (other s) (symbols_in y)) b.1))
    where
      by_another : (j : ℕ) → s ≡ symbol_at y j → (t : ℕ) × In t (symbols_in y) × (other s t ≡ true) → R y j
      by_another j q w =
          let r = position_of y w.0 w.1 in
          let c = both_true (not (eqb w.0 s)) (has held (place w.0 true)) w.2 in
          let d = eqb-false w.0 s (not-true (eqb w.0 s) c.0) in
          by_other {x = y} {i = j} r.0 r.1 (λ o. d (r.2 ∙ ap (symbol_at y) o ∙ sym q))
          (subst (λ (a : ℕ). has held (place a true) ≡ true) r.2 c.1)
  premise_gone s (pairs t) k h x i m l e = absurd (false≢true h)

  pairs_gone : (gone : List Bool) → ((s : ℕ) → has gone s ≡ true → Gone s) → (s : ℕ) (e : Entry) → In e entries → pairs_remove gone s e ≡ true → Gone s
  pairs_gone gone ih s (positions y) k h x i m l e = absurd (false≢true h)
  pairs_gone gone ih s (pairs t) k h x i m l e = let w = any_found (side_removes gone s) (sides t) h in by_side w.0 w.1 w.2
    where
      by_side : (u : Side) → In u (sides t) → side_removes gone s u ≡ true → R x i
      by_side u n g =
          let lost : ℕ → Bool = λ j. not (u.may (s - u.own.first) j) || has gone (symbol_at u.partner j) in
          let b = both_true (member s (symbols_in u.own)) (all lost (from 0 u.partner.count)) g in
          let p = position_of u.own s (member_in s (symbols_in u.own) b.0) in
          let c = joined_side S entries held ok fit t u k n in
          only x u.own i p.0 s m c.0 l p.1 e p.2
          (by_pairs t u k n refl
          (λ j a f.
          ih (symbol_at u.partner j)
          (⊎_elim (λ q. clash f (rw (← p.3) at (not-true (u.may (s - u.own.first) j) q))) (λ q. q)
          (one_true_lem (not (u.may (s - u.own.first) j)) (has gone (symbol_at u.partner j))
          (all_at lost b.1 (in_from 0 u.partner.count j (omega arith) (omega arith)))))
          u.partner j c.1 a refl))

  reached_gone : (k s : ℕ) → has (reached (suc S) step start k) s ≡ true → Gone s
  reached_gone zero s h =
      let r = start_cases (suc S) step start s h in
      let first = get_d_tabulate (suc S) (λ (z : ℕ). any (premise_removes held z) entries) s false r.0 in
      let w = any_found (premise_removes held s) entries (sym first ∙ r.1) in
      premise_gone s w.0 w.1 w.2
  reached_gone (suc k) s h =
      let now = reached (suc S) step start k in
      ⊎_elim (reached_gone k s)
      (λ e. let w = any_found (pairs_remove now s) entries e in pairs_gone now (reached_gone k) s w.0 w.1 w.2)
      (round_cases (suc S) step start k s h)

  position_removed : (x : Variable) (i : ℕ) → Has x → i < x.count → R x i ↔ (has (removed S entries held) (symbol_at x i) ≡ true)
  unfolding removed
  position_removed x i m l = (λ r. removed_found r m l, λ h. reached_gone (suc S) (symbol_at x i) h x i m l refl)

  -- ---- so is a variable that is emptied

  abbrev gone : List Bool
  gone = removed S entries held

  emptied_of : Emptied entries held → emptied S entries held ≡ true
  unfolding emptied
  emptied_of w = any_at (emptied_by gone) w.1 (all_of (has gone) (symbols_in w.0) each)
    where
      each : (s : ℕ) → In s (symbols_in w.0) → has gone s ≡ true
      each s m = let p = position_of w.0 s m in rw p.2 ((position_removed w.0 p.0 w.1 p.1).0 (w.2 p.0 p.1))

  emptied_words : emptied S entries held ≡ true → Emptied entries held
  unfolding emptied
  emptied_words h = let w = any_found (emptied_by gone) entries h in one w.0 w.1 w.2
    where
      one : (e : Entry) → In e entries → emptied_by gone e ≡ true → Emptied entries held
      one (positions x) m a = (x, m, λ i l. (position_removed x i m l).1 (all_at (has gone) a (symbol_in_lem x i l)))
      one (pairs t) m a = absurd (false≢true a)

pub removed_is : RemovedIs
removed_is S entries held ok fit = (position_removed S entries held ok fit, (emptied_of S entries held ok fit, emptied_words S entries held ok fit))

-- ---- the two computations agree

pub removal_computed : RemovalComputed
removal_computed S entries held ok fit = record { conflicts = conflicts; ruled_out = ruled_out }
  where
    known : List Bool
    known = derived (2 * S) (all_rows (rules_of S (formulae_of_all entries))) held

    Known : ℕ → Type 0
    Known = DerivedBy S entries held

    is : (p : ℕ) → Known p ↔ (has known p ≡ true)
    is = derived_is (2 * S) (all_rows (rules_of S (formulae_of_all entries))) held

    empties : Emptied entries held ↔ (emptied S entries held ≡ true)
    empties = (removed_is S entries held ok fit).1

    conflicts : conflict known ≡ emptied S entries held
    conflicts =
        same_test (conflict known) (emptied S entries held)
        (λ c. empties.0 ((conflict_emptied S entries held ok fit).0 (conflict_words Known known is c)))
        (λ h. conflict_of Known known is ((conflict_emptied S entries held ok fit).1 (empties.1 h)))

    ruled_out : emptied S entries held ≡ false → (x : Variable) (i : ℕ) → In (positions x) entries → i < x.count
        → has known (off x i) ≡ has (removed S entries held) (symbol_at x i)
    ruled_out h x i m l =
        let q = ruled_out_removed S entries held ok fit (λ c. clash (empties.0 ((conflict_emptied S entries held ok fit).0 c)) h) x i m l in
        let r = (removed_is S entries held ok fit).0 x i m l in
        same_test (has known (off x i)) (has (removed S entries held) (symbol_at x i))
        (λ d. r.0 (q.0 ((is (off x i)).1 d))) (λ g. (is (off x i)).0 (q.1 (r.1 g)))
