-- A run of the journal: what stands in the buffer and the lines that are still to come are always the same text.
use Rattle.std.specs.Prelude.{ℕ, ◌+◌, ◌≤◌, Bool, false, cond, not, ◌&&◌, List, [], ◌++◌, ltb, ℤ, length, take, drop}
use Rattle.board.specs.Changes.{empty_board}
use Rattle.lines.specs.Commands.{lines_of}
use Rattle.journal.specs.declared.Run.{Run}

-- the start of a run: "from a board with S = 0", the first command next, "its ordinal from 1"
abbrev pub starting : Run
starting = record { board = empty_board 0; next = 0; ordinal = 1; stops = false; filled = 0 }

-- the lines that are still to come
abbrev pub left : Run → List ℤ → (input : List ℕ) → List ℕ
left run table input =
    cond run.stops [] (lines_of (length input) run.ordinal run.board table (drop run.next input))

-- what stands in the buffer, and they after it
abbrev pub told : Run → List ℤ → (input out : List ℕ) → List ℕ
told run table input out = take run.filled out ++ left run table input

-- another command is to be carried out
abbrev pub more : Run → (input : List ℕ) → Bool
more run input = not run.stops && ltb run.next (length input)

-- the next command stands in the input, and no ordinal is above its place by more than 1
pub record Runs (run : Run) (input : List ℕ) : Type 0 where
  pub inside : run.next ≤ length input
  pub counted : run.ordinal ≤ run.next + 1
