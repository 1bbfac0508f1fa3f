-- The desk's request: "the desk's state is `run` of the calls its lines are", of all the input. Each promise is a type; the proofs are in `proofs/`,
-- under the same names in small letters.
use Rattle.std.specs.Prelude.{ℕ, ◌≡◌, cond, List, [], ◌∷◌, ◌++◌, eqb, length}
use Rattle.promises.specs.Calls.{run}
use Rattle.orders.specs.States.{State}
use Rattle.orders.specs.Promises.{calls_along}
use Rattle.desk.specs.Sittings.{Sat, plain, kept, after_bytes, after_end}

-- the lines of a text, as the desk takes them; `line` has what was read of the first, and the last may do without its line feed
unfoldable pub lines_from : (line text : List ℕ) → List (List ℕ)
lines_from line [] = cond (eqb (length line) 0) [] (plain line ∷ [])
lines_from line (b ∷ rest) = cond (eqb b 10) (plain line ∷ lines_from [] rest) (lines_from (kept (line ++ (b ∷ []))) rest)

-- after a text that is all the input: the board, the table and the record are those of the calls that its lines are
abbrev pub IsAfter : State → (text : List ℕ) → State → Type 0
IsAfter before text after = after.world ≡ run before.world (calls_along before (lines_from [] text))

-- the board, the table and the record after all the input are those of the calls that its lines are
abbrev pub IsTheRun : Type 0
IsTheRun =
    (s : Sat) (text : List ℕ)
    → (after_end (after_bytes s text)).world ≡ run s.state.world (calls_along s.state (lines_from s.pending text))
