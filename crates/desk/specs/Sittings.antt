-- The bytes of the input as lines, and the desk's state after them.
use Rattle.std.specs.Prelude.{ℕ, suc, ◌-◌, ◌≡◌, Bool, false, cond, List, [], ◌∷◌, ◌++◌, eqb, ℤ, length, take, get_or}
use Rattle.board.specs.Changes.{empty_board}
use Rattle.stack.specs.Stacking.{empty_stacks}
use Rattle.orders.specs.States.{State, state_of, ordered, did}
use Rattle.desk.specs.declared.sitting.Sitting.{Sitting}

-- no board is open, no literal is on trial, and furnace 1 is worked
abbrev pub starting : Sitting
starting =
    record {
      desk = record { board = empty_board 0; stacks = empty_stacks; furnace = 1 };
      echo = false;
      lines = 0;
      filled = 0;
    }

-- ---- lines

-- "A carriage return at a line's end is left out."
unfoldable pub plain_length : List ℕ → ℕ
plain_length line = cond (eqb (get_or line (length line - 1) 0) 13) (length line - 1) (length line)

abbrev pub plain : List ℕ → List ℕ
plain line = take (plain_length line) line

unfoldable pub after_line : State → List ℕ → State
after_line s line = did s (ordered s (plain line))

-- what is left where an answer cannot be written: the table and the names of a state
abbrev pub Leaves : State → (table : List ℤ) → (names : List ℕ) → Type 0
Leaves s table names = (table ≡ s.world.table) × (names ≡ s.names)

-- ---- bytes

-- what is kept of a line while it is read: its 500 bytes, a carriage return, and one more, by which a longer line is known
abbrev pub kept : List ℕ → List ℕ
kept line = take 502 line

-- the state, and what was read of a line that is not ended
pub record Sat : Type 0 where
  pub state : State
  pub pending : List ℕ

abbrev pub sat : Sitting → (table : List ℤ) → (names line : List ℕ) → Sat
sat s table names line = record { state = state_of s.desk table names; pending = take s.filled line }

-- a line feed ends a line, any other byte goes on with it
abbrev pub after_byte : Sat → ℕ → Sat
after_byte s b =
    cond (eqb b 10)
    (record { state = after_line s.state s.pending; pending = [] })
    (record { state = s.state; pending = kept (s.pending ++ (b ∷ [])) })

-- bytes without a line feed, at once, and where one follows them the line that it ends
abbrev pub after_part : Sat → (part : List ℕ) → (ends : Bool) → Sat
after_part s part ends =
    cond ends
    (record { state = after_line s.state (kept (s.pending ++ part)); pending = [] })
    (record { state = s.state; pending = kept (s.pending ++ part) })

unfoldable pub after_bytes : Sat → List ℕ → Sat
after_bytes s [] = s
after_bytes s (b ∷ bytes) = after_bytes (after_byte s b) bytes

-- the last line may do without its line feed
unfoldable pub after_end : Sat → State
after_end s = cond (eqb (length s.pending) 0) s.state (after_line s.state s.pending)

-- how many bytes stand before the first line feed
unfoldable pub line_length : List ℕ → ℕ
line_length [] = 0
line_length (b ∷ rest) = cond (eqb b 10) 0 (suc (line_length rest))
