-- Demand 3, over every sequence of calls since an open: both ways find a literal and its opposite or neither does, and where neither
-- does every label is the same.
use Rattle.meaning.proofs.Kit.{◌≡◌, ◌∙◌, sym, refl, ⊎_elim, true, false, Bool, List, ◌≤◌, ℕ, suc, ◌*◌, ◌/◌, arith, length}
use Rattle.meaning.specs.Literals.{place, opp, has, conflict}
use Rattle.meaning.specs.Rounds.{by_rows, label_of, label}
use Rattle.meaning.specs.SecondWay.{second_way}
use Rattle.meaning.proofs.Literals.{opp_even, opp_odd, even_or_odd, opp_place, has_below, conflict_at, conflict_found}
use Rattle.meaning.proofs.Rounds.{reached_length}
use Rattle.meaning.proofs.DemandThree.{demand_three, demand_three_computed}
use Rattle.promises.specs.Demands.{rows_of_world, since, accepted_since, premises_of, derived_set, WaysAgree, SettleAgrees}
use Rattle.promises.proofs.Told.{label_at}
use Rattle.promises.proofs.History.{rows_kept_lem, keeps}

pub ways_agree : WaysAgree
ways_agree w₀ S calls held =
    let w = since w₀ S calls in
    let k = keeps w₀ S calls in
    rw (rows_kept_lem k) (demand_three w.board.symbols (accepted_since w₀ S calls) held k.fine)

-- ---- in labels: some symbol has label 3 exactly if there is a conflict

label_both : (a b : Bool) → label_of a b ≡ 3 → (a ≡ true) × (b ≡ true)
label_both true true e = (refl, refl)
label_both true false e = absurd (omega arith)
label_both false true e = absurd (omega arith)
label_both false false e = absurd (omega arith)

module _ (known : List Bool) where
  three_conflict : (s : ℕ) → label known s ≡ 3 → conflict known ≡ true
  three_conflict s e =
      let r = label_both (has known (place s true)) (has known (place s false)) e in
      conflict_at known (place s true) r.0 (rw (opp_place s true) r.1)

  three : (s : ℕ) → has known (place s true) ≡ true → has known (place s false) ≡ true → label known s ≡ 3
  three s a b = rw (a, b)

  -- the symbol of a literal that is known with its opposite
  symbol_three : (p : ℕ) → has known p ≡ true → has known (opp p) ≡ true → label known (suc (p / 2)) ≡ 3
  symbol_three p a b =
      ⊎_elim
      (λ z.
      let plus : place (suc (p / 2)) true ≡ p = omega arith in
      let minus : place (suc (p / 2)) false ≡ opp p = omega (arith, opp_even p z) in
      three (suc (p / 2)) (rw plus a) (rw minus b))
      (λ z.
      let plus : place (suc (p / 2)) true ≡ opp p = omega (arith, opp_odd p z) in
      let minus : place (suc (p / 2)) false ≡ p = omega arith in
      three (suc (p / 2)) (rw plus b) (rw minus a)) (even_or_odd p)

  conflict_three : (S : ℕ) → length known ≡ 2 * S → conflict known ≡ true → (s : ℕ) × (1 ≤ s) × (s ≤ S) × (label known s ≡ 3)
  conflict_three S long e =
      let r = conflict_found known e in
      let low = has_below known r.0 r.1 in
      (suc (r.0 / 2), omega arith, omega arith, symbol_three r.0 r.1 r.2)

pub settle_agrees : SettleAgrees
settle_agrees w₀ S calls lent furnace labels ranks supports e =
    let w = since w₀ S calls in
    let known = second_way w.board.symbols (accepted_since w₀ S calls) (premises_of w furnace) in
    let k = keeps w₀ S calls in
    let found = demand_three_computed w.board.symbols (accepted_since w₀ S calls) (premises_of w furnace) k.fine in
    let both : conflict (derived_set w furnace) ≡ conflict known = rw (rows_kept_lem k) found.conflicts in
    let here = label_at w lent furnace labels ranks supports e in
    let long = reached_length (2 * w.board.symbols) (by_rows (rows_of_world w)) (premises_of w furnace) (2 * w.board.symbols) in
    record {
      conflicts = (
        λ r. sym both ∙ three_conflict (derived_set w furnace) r.0 (sym (here r.0 r.1 r.2) ∙ r.3),
        λ c.
            (let r = conflict_three (derived_set w furnace) w.board.symbols long (both ∙ c) in
            (r.0, r.1, r.2, here r.0 r.1 r.2 ∙ r.3)),
      );
      same = λ peace s low high. here s low high ∙ rw (rows_kept_lem k) (found.labels (rw (rows_kept_lem k) at (both ∙ peace)) s);
    }
