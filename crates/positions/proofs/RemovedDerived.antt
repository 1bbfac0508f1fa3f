-- Removed positions are ruled out by the rows, and a variable that is emptied makes a conflict.
use Rattle.meaning.proofs.Kit.{◌≡◌, sym, ap, refl, subst, ⊎_elim, inl, inr, ◌⊎◌, ◌≢◌, true, false, Bool, List, In, here, there, in_cons, in_one, ◌≤◌}
use Rattle.meaning.proofs.Kit.{ℕ, ◌<◌, ◌*◌, arith}
use Rattle.meaning.specs.Tests.{all}
use Rattle.meaning.specs.Literals.{place, opp}
use Rattle.positions.specs.Positions.{Variable, symbol_at, on, off, PairTable, Side, sides, pair_row, Entry, positions, pairs, suits}
use Rattle.meaning.specs.Promises.{premise, by_row, Conflict}
use Rattle.positions.specs.Promises.{by_other, by_own, by_pairs, Removed, Emptied, Fitting, DerivedBy}
use Rattle.meaning.proofs.Tests.{all_at}
use Rattle.meaning.proofs.Tables.{le_or_lt}
use Rattle.meaning.proofs.Literals.{opp_place, place_below, place_same}
use Rattle.positions.proofs.PositionRules.{Fits, suits_variable}
use Rattle.positions.proofs.Turns.{in_made, made_in}
use Rattle.positions.proofs.RowKinds.{one_taken, not_both, own_in_row, pair_row_in, least, most, pair, in_rows}

module _ (S : ℕ) (entries : List Entry) (held : List Bool) (ok : all (suits S) entries ≡ true) (fit : Fitting entries held) where
  abbrev D : ℕ → Type 0
  D p = DerivedBy S entries held p

  abbrev Has : Variable → Type 0
  Has x = In (positions x) entries

  entered_fits : (x : Variable) → Has x → Fits S x
  entered_fits x m = suits_variable S x (all_at (suits S) ok m)

  below : (x : Variable) (i : ℕ) (b : Bool) → Has x → i < x.count → place (symbol_at x i) b < 2 * S
  below x i b m l = let h = entered_fits x m in place_below S (symbol_at x i) b (omega arith) (omega arith)

  -- a literal is of one position only
  pub same_position : (x y : Variable) (i j : ℕ) (b c : Bool) → In (positions x) entries → In (positions y) entries → i < x.count → j < y.count
      → place (symbol_at x i) b ≡ place (symbol_at y j) c → (x ≡ y) × (i ≡ j) × (b ≡ c)
  same_position x y i j b c m k l n e =
      let h = entered_fits x m in
      let g = entered_fits y k in
      let r = place_same (symbol_at x i) (symbol_at y j) b c (omega arith) (omega arith) e in
      let v = fit.apart x y i j m k l n r.0 in
      (v, omega (arith, r.0, ap (λ (z : Variable). z.first) v), r.1)

  -- both variables of a side are entered
  pub joined_side : (t : PairTable) (s : Side) → In (pairs t) entries → In s (sides t)
      → In (positions s.own) entries × In (positions s.partner) entries
  joined_side t s m k =
      let r = fit.joined t m in
      ⊎_elim (λ e. subst Both (sym e) (r.0, r.1)) (λ n. subst Both (sym (in_one n)) (r.1, r.0)) (in_cons k)
    where
      Both : Side → Type 0
      Both u = Has u.own × Has u.partner

  -- two positions of a variable are not both taken
  not_both_lem : (x : Variable) (i j : ℕ) → Has x → i < x.count → j < x.count → j ≢ i → D (on x j) → D (off x i)
  not_both_lem x i j m l n d h = go (le_or_lt j i)
    where
      next : (q : ℕ) → q ≡ off x j → D (opp q)
      next q e = rw (e, opp_place (symbol_at x j) false) h

      go : (j ≤ i) ⊎ (i < j) → D (off x i)
      go (inl b) =
          by_row (not_both x j i) (in_rows S entries ok (not_both x j i) (most x j i m (omega arith) l refl)) (there (here refl)) (below x i false m l)
          (λ q k o. ⊎_elim (next q) (λ a. absurd (o (in_one a))) (in_cons k))
      go (inr b) =
          by_row (not_both x i j) (in_rows S entries ok (not_both x i j) (most x i j m b n refl)) (here refl) (below x i false m l)
          (λ q k o. ⊎_elim (λ e. absurd (o e)) (λ a. next q (in_one a)) (in_cons k))

  -- a position is ruled out where all that it may stand with are
  no_partner : (t : PairTable) (s : Side) (i : ℕ) → In (pairs t) entries → In s (sides t) → i < s.own.count
      → ((j : ℕ) → j < s.partner.count → s.may i j ≡ true → D (off s.partner j)) → D (off s.own i)
  no_partner t s i m k l away =
      by_row (pair_row s i) (in_rows S entries ok (pair_row s i) (pair t s i m k l refl)) (own_in_row s i)
      (below s.own i false (joined_side t s m k).0 l) other
    where
      other : (q : ℕ) → In q (pair_row s i) → q ≢ off s.own i → D (opp q)
      other q n o =
          ⊎_elim (λ e. absurd (o e)) (λ w. rw (w.3, opp_place (symbol_at s.partner w.0) true) (away w.0 w.1 w.2))
          (pair_row_in s i q n)

  pub removed_derived : {x : Variable} {i : ℕ} → Removed entries held x i → In (positions x) entries → i < x.count
      → DerivedBy S entries held (off x i)
  removed_derived (by_other {x = x} {i = i} j b d h) m l = not_both_lem x i j m l b d (premise (below x j true m b) h)
  removed_derived (by_own {x = x} {i = i} h) m l = premise (below x i false m l) h
  removed_derived (by_pairs {x = x} {i = i} t s a k e away) m l =
      subst (λ (y : Variable). D (off y i)) (sym e)
      (no_partner t s i a k (subst (λ (y : Variable). i < y.count) e l) (λ j b f. removed_derived (away j b f) (joined_side t s a k).1 b))

  -- the row that one position is taken gives the first, which is ruled out
  pub emptied_conflict : Emptied entries held → Conflict (DerivedBy S entries held)
  emptied_conflict w =
      let x = w.0 in
      let c = entered_fits x w.1 in
      let first = on x 0 in
      let away : (q : ℕ) → In q (one_taken x) → D (opp q) =
      λ q n. let r = made_in (on x) x.count n in
      rw (r.2, opp_place (symbol_at x r.0) true) (removed_derived (w.2 r.0 r.1) w.1 r.1) in
      let n = in_made (on x) x.count 0 (omega arith) in (
        first,
        by_row (one_taken x) (in_rows S entries ok (one_taken x) (least x w.1 refl)) n (below x 0 true w.1 (omega arith)) (λ q k o. away q k),
        away first n,
      )
