-- The whole journal comes out: the text begun is the journal's, where the program stops nothing of it is left, and what is handed to
-- the operating system in between, buffer after buffer, is all of it. Each promise is a type; `proofs/` has a proof of each, under the
-- same name in small letters.
use Rattle.std.specs.Prelude.{ℕ, ◌≡◌, false, List, [], ◌++◌, ℤ, length, take}
use Rattle.board.specs.Changes.{empty_board}
use Rattle.lines.specs.Commands.{lines_of}
use Rattle.journal.specs.Told.{left, more, starting, told}
use Rattle.journal.specs.declared.Run.{Run}

-- every line of the journal, from the board of no symbols and ordinal 1
abbrev pub all_lines : List ℤ → (input : List ℕ) → List ℕ
all_lines table input = lines_of (length input) 1 (empty_board 0) table input

-- at the start every line is still to come
abbrev pub Begins : Type 0
Begins = (table : List ℤ) (input : List ℕ) → left starting table input ≡ all_lines table input

-- where no further command is carried out, no line is left
abbrev pub Ends : Type 0
Ends = (run : Run) (table : List ℤ) (input : List ℕ) → more run input ≡ false → left run table input ≡ []

-- What was handed to the operating system by the time a run and its table are reached, as the program's loop goes: nothing at the
-- start; and each time that the buffer is filled anew, as `fill` promises it, the bytes that are filled.
pub data Handed (table : List ℤ) (input : List ℕ) : Run → List ℤ → (text : List ℕ) → Type 0 where
  nothing : Handed table input starting table []
  another : {run next : Run} {before after : List ℤ} {text : List ℕ} → (out : List ℕ) → Handed table input run before text
      → told next after input out ≡ left run before input → Handed table input next after (text ++ take next.filled out)

-- where the program stops, that is the whole journal
abbrev pub WritesAll : Type 0
WritesAll =
    (table : List ℤ) (input : List ℕ) (run : Run) (after : List ℤ) (text : List ℕ) → Handed table input run after text → more run input ≡ false
    → text ≡ all_lines table input
