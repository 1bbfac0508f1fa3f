-- What withdrawing a set of candidates does. A set that leaves a conflict tells which candidates that conflict stands on, its core: no set without
-- a candidate of the core ends it.
use Rattle.std.specs.Prelude.{ℕ, cond, List, eqb, ℤ, get_or, Option, Some, None}
use Rattle.meaning.specs.Literals.{has}
use Rattle.meaning.specs.Ground.{struck_off, blame}
use Rattle.candidates.specs.Sets.{chosen, passing}
use Rattle.board.specs.Furnaces.{held_by, with_held}
use Rattle.board.specs.Ranking.{rows_on}
use Rattle.board.specs.declared.Board.{Board}
use Rattle.least.specs.Withdrawing.{leaves_conflict}

-- the board with a set of candidates struck off a furnace's premises
unfoldable pub struck_on : Board → (furnace : ℕ) → (places : List ℕ) → ℕ → Board
struck_on b furnace places m = with_held b furnace (struck_off (held_by b furnace) (chosen places m))

-- the candidates marked, as a set
abbrev pub marked_set : (marks places : List ℕ) → ℕ
marked_set marks places = passing (λ p. eqb (get_or marks p 0) 1) places

-- of the premises that blame names once a set is struck off, the candidates
unfoldable pub core_of : List ℤ → Board → (furnace : ℕ) → (places : List ℕ) → ℕ → ℕ
core_of table b furnace places m =
    passing (has (blame b.symbols (rows_on table b) (struck_off (held_by b furnace) (chosen places m)))) places

-- what withdrawing a set does: it leaves a conflict, of this core, or ends it
unfoldable pub effect_of : List ℤ → Board → (furnace : ℕ) → (places : List ℕ) → ℕ → Option ℕ
effect_of table b furnace places m =
    cond (leaves_conflict table b furnace (chosen places m)) (Some (core_of table b furnace places m)) None
