-- How the code works out the rows. Contracts of internal functions name these.
use Rattle.std.specs.Prelude.{ℕ, zero, suc, ◌+◌, ◌-◌, ◌*◌, ◌^◌, ◌≤◌, Bool, true, false, cond, List, [], ◌∷◌, ◌++◌, map, replicate}
use Rattle.meaning.specs.Tests.{from, bit}
use Rattle.positions.specs.Positions.{PairTable, Side, first_side, second_side, pair_row}
use Rattle.literals.specs.Row.{Ruled}
use Rattle.positions.specs.declared.rows.View.{View}

-- ---- a variable: the truth table of "exactly one" over n symbols. Where the first symbol is false, it is that of the others; where it is true, only
-- the assignment that makes all others false is accepted
unfoldable pub only_one : ℕ → List Bool
only_one zero = false ∷ []
only_one (suc n) = only_one n ++ true ∷ replicate (2 ^ n - 1) false

-- ---- a pair table, as one of its variables sees it

abbrev pub side_of : View → Side
side_of v =
    record {
      own = record { first = v.own; count = v.positions };
      partner = record { first = v.partner; count = v.choices };
      may = λ (i j : ℕ). bit (cond v.turned (7 * j + i) (7 * i + j)) v.pairs;
    }

-- what the call has tested of both variables: their counts, and that they lie on a board of at most 200 symbols
pub record Sees (v : View) : Type 0 where
  pub some : (1 ≤ v.own) × (1 ≤ v.partner)
  pub few : (v.positions ≤ 7) × (v.choices ≤ 7)
  pub within : (v.own + v.positions ≤ 201) × (v.partner + v.choices ≤ 201)

-- rows that are each all that a rule has, of which the first has this number
abbrev pub each_a_rule : (rule : ℕ) → List (List ℕ) → List Ruled
each_a_rule rule [] = []
each_a_rule rule (row ∷ rows) = record { rule = rule; row = row } ∷ each_a_rule (suc rule) rows

-- the rows of a side, and of both
abbrev pub side_rows : Side → List (List ℕ)
side_rows s = map (pair_row s) (from 0 s.own.count)

abbrev pub both_rows : PairTable → List (List ℕ)
both_rows t = side_rows (first_side t) ++ side_rows (second_side t)
