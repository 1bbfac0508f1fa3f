-- 02, Ticket 6: "One table, one S, one count of rows in use, two sets of premises."
use Rattle.std.specs.Prelude.{ℕ, Bool, cond, ◌||◌, List, [], eqb}
use Rattle.board.specs.declared.Board.{Board}

-- 16 is "for a furnace number other than 1 or 2"
unfoldable pub is_furnace : ℕ → Bool
is_furnace furnace = eqb furnace 1 || eqb furnace 2

-- of both sets of premises the furnace's own; another number has none
abbrev pub set_of : (furnace : ℕ) → (first second : List Bool) → List Bool
set_of furnace first second = cond (eqb furnace 1) first (cond (eqb furnace 2) second [])

unfoldable pub held_by : Board → (furnace : ℕ) → List Bool
held_by b furnace = set_of furnace b.first b.second

-- the board with other premises for one furnace, and all else as it was
unfoldable pub with_held : Board → (furnace : ℕ) → List Bool → Board
with_held b furnace held =
    record {
      symbols = b.symbols;
      rows = b.rows;
      rules = b.rules;
      first = cond (eqb furnace 1) held b.first;
      second = cond (eqb furnace 2) held b.second;
    }
