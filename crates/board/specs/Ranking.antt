-- What the calls that propagate find on a board: the rows, and by them what is derived for the furnace that is named.
use Rattle.std.specs.Prelude.{ℕ, ◌*◌, Bool, List, ℤ}
use Rattle.meaning.specs.Rounds.{derived, rank_of, support_of}
use Rattle.literals.specs.Row.{rows_in}
use Rattle.board.specs.Furnaces.{held_by}
use Rattle.board.specs.declared.Board.{Board}

-- the rows in use, as lists of places; the count of places is 2S
abbrev pub rows_on : List ℤ → Board → List (List ℕ)
rows_on table b = rows_in b.rows table

-- the derived literals, the rank and the support on a board, for a furnace
abbrev pub derived_on : List ℤ → Board → (furnace : ℕ) → List Bool
derived_on table b furnace = derived (2 * b.symbols) (rows_on table b) (held_by b furnace)

abbrev pub rank_on : List ℤ → Board → (furnace : ℕ) → ℕ → ℕ
rank_on table b furnace p = rank_of (2 * b.symbols) (rows_on table b) (held_by b furnace) p

abbrev pub support_on : List ℤ → Board → (furnace : ℕ) → ℕ → ℕ
support_on table b furnace p = support_of (2 * b.symbols) (rows_on table b) (held_by b furnace) p
