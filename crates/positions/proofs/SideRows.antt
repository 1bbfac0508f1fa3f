-- The rows of one side of a pair table, written one after the other.
use Rattle.meaning.proofs.Kit.{◌≡◌, ◌∙◌, sym, ap, refl, ap₂, ⊎_elim, true, List, [], ◌∷◌, ◌++◌, map, ◌≤◌, ℕ, ◌<◌, ◌-◌, ◌+◌, suc, ◌*◌, add-zero}
use Rattle.meaning.proofs.Kit.{add-one, arith, ltb, ℤ, length, lt-ltb}
use Rattle.meaning.specs.Tests.{all, from}
use Rattle.positions.specs.Positions.{Side, pair_row}
use Rattle.meaning.proofs.Tests.{all_of}
use Rattle.literals.specs.Row.{width, Ruled, of_rule}
use Rattle.implicates.specs.Appending.{appended}
use Rattle.implicates.proofs.Appending.{appended_more, appended_none, length_appended}
use Rattle.positions.specs.Writing.{Sees, side_of, each_a_rule, side_rows}
use Rattle.positions.specs.declared.rows.View.{View}
use Rattle.positions.proofs.RowKinds.{pair_row_in}
use Rattle.positions.proofs.Turns.{all_left, next_of, none_left}

-- ---- the places of a clause are of a board's

pub clause_small : (v : View) (i : ℕ) → Sees v → i < v.positions → all (λ p. ltb p 400) (pair_row (side_of v) i) ≡ true
clause_small v i sees h =
    all_of (λ p. ltb p 400) (pair_row (side_of v) i)
    (λ p m. lt-ltb p 400 (⊎_elim (λ e. omega (arith, e, sees.within.0)) (λ w. omega (arith, w.1, w.3, sees.within.1))
    (pair_row_in (side_of v) i p m)))

-- ---- one row after the other

module _ (s : Side) (rules row : ℕ) (old : List ℤ) where
  -- those from position i on
  abbrev left : ℕ → List Ruled
  left i = each_a_rule (suc (rules + i)) (map (pair_row s) (from i (s.own.count - i)))

  -- those before position i are written
  pub record Written (table : List ℤ) (i : ℕ) : Type 0 where
    pub within : i ≤ s.own.count
    pub same : length table ≡ length old
    pub is : appended table (row + i) (left i) ≡ appended old row (each_a_rule (suc rules) (side_rows s))

  pub written_none : Written old 0
  written_none =
      record {
        within = omega arith;
        same = refl;
        is =
            rw (add-zero, add-zero)
            (ap (λ (is : List ℕ). appended old row (each_a_rule (suc rules) (map (pair_row s) is))) (sym (all_left s.own.count)));
      }

  module _ (table : List ℤ) (i : ℕ) (w : Written table i) (h : i < s.own.count) (room : width * (row + s.own.count) ≤ length old) where
    abbrev one : List Ruled
    one = of_rule (rules + i + 1) (pair_row s i ∷ [])

    -- the rows after it
    abbrev later : List (List ℕ)
    later = map (pair_row s) (from (i + 1) (s.own.count - (i + 1)))

    pub written_one : Written (appended table (row + i) (of_rule (rules + i + 1) (pair_row s i ∷ []))) (i + 1)
    written_one =
        let fits : width * (row + i + 1) ≤ length table = omega (arith, w.same) in
        let next : row + (i + 1) ≡ row + i + 1 = omega arith in
        let number : suc (rules + (i + 1)) ≡ suc (rules + i + 1) = omega arith in
        record {
          within = omega arith;
          same = length_appended table (row + i) one fits ∙ w.same;
          is =
              ap₂ (λ (r n : ℕ). appended (appended table (row + i) one) r (each_a_rule n later)) next number
              ∙ appended_more table (row + i) one (each_a_rule (suc (rules + i + 1)) later) fits
              ∙ ap (appended table (row + i)) again
              ∙ w.is;
        }
      where
        again : one ++ each_a_rule (suc (rules + i + 1)) later ≡ left i
        again = rw (next_of i s.own.count h, add-one)

  pub written_all : (table : List ℤ) (i : ℕ) → Written table i → s.own.count ≤ i → table ≡ appended old row (each_a_rule (suc rules) (side_rows s))
  written_all table i w h =
      sym (appended_none table (row + i))
      ∙ ap (λ (is : List ℕ). appended table (row + i) (each_a_rule (suc (rules + i)) (map (pair_row s) is))) (sym (none_left i s.own.count h))
      ∙ w.is
