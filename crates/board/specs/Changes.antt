-- Open, hold and withdraw: "A refused call returns the number with the board as given, except that a refused open returns a board with
-- S = 0, no rows in use and no premises".
use Rattle.std.specs.Prelude.{ℕ, Bool, true, false, not, ◌&&◌, List, [], ◌∷◌, leb, ℤ, set, replicate}
use Rattle.std.specs.Bool.{beq}
use Rattle.meaning.specs.Literals.{has}
use Rattle.literals.specs.Literal.{in_range, place_of}
use Rattle.literals.specs.declared.refusal.Refusal.{Refusal}
use Rattle.literals.specs.declared.refusal.Refusal.TheVariants.{BadBoard, BadLiteral, AlreadyHeld, NotHeld, BadFurnace}
use Rattle.board.specs.Furnaces.{is_furnace, held_by, with_held}
use Rattle.board.specs.Faults.{good_board, Fault, first_fault, if_done}
use Rattle.board.specs.declared.Board.{Board}
use Rattle.board.specs.declared.Change.{Change}
use Rattle.board.specs.Faults.{Outcome}

-- what open, hold and withdraw answer: the board so changed, or as given
abbrev pub changed : Outcome → Board → Board → Change
changed outcome given next = record { outcome = outcome; board = if_done outcome next (λ _. given) }

-- "rows in use and premises start empty"; 02, Ticket 6: "opening empties both sets"; Ticket 8: "every open, a refused one too, sets the count to 0"
abbrev pub empty_board : ℕ → Board
empty_board S = record { symbols = S; rows = 0; rules = 0; first = replicate 400 false; second = replicate 400 false }

-- "at open, the count is outside 1 to 200"
unfoldable pub open_faults : ℕ → List Fault
open_faults S = record { given = not (leb 1 S && leb S 200); refusal = BadLiteral } ∷ []

unfoldable pub opened : ℕ → Change
opened S = changed (first_fault (open_faults S)) (empty_board 0) (empty_board S)

-- the board with the flag of one premise of one furnace changed, and nothing else
abbrev pub with_flag : Board → (furnace : ℕ) → ℤ → Bool → Board
with_flag b furnace l flag = with_held b furnace (set (held_by b furnace) (place_of l) flag)

-- "Order: 1, then 2 for a given literal, 13, .. then 10, 11 or 12": 16 stands "just after 1" (02, Ticket 6), and 14 is struck out (Ticket 7). Hold
-- and withdraw are refused where the premise is already as it shall be
unfoldable pub flag_faults : List ℤ → Board → (furnace : ℕ) → ℤ → (flag : Bool) → (already : Refusal) → List Fault
flag_faults table b furnace l flag already =
    record { given = not (good_board table b); refusal = BadBoard }
    ∷ record { given = not (is_furnace furnace); refusal = BadFurnace }
    ∷ record { given = not (in_range b.symbols l); refusal = BadLiteral }
    ∷ record { given = beq (has (held_by b furnace) (place_of l)) flag; refusal = already }
    ∷ []

unfoldable pub flag_changed : List ℤ → Board → (furnace : ℕ) → ℤ → (flag : Bool) → (already : Refusal) → Change
flag_changed table b furnace l flag already = changed (first_fault (flag_faults table b furnace l flag already)) b (with_flag b furnace l flag)

-- 10: "hold: the literal is held already"
abbrev pub hold_faults : List ℤ → Board → (furnace : ℕ) → ℤ → List Fault
hold_faults table b furnace l = flag_faults table b furnace l true AlreadyHeld

abbrev pub hold_answer : List ℤ → Board → (furnace : ℕ) → ℤ → Change
hold_answer table b furnace l = flag_changed table b furnace l true AlreadyHeld

-- 11: "withdraw: the literal isn't held"
abbrev pub withdraw_faults : List ℤ → Board → (furnace : ℕ) → ℤ → List Fault
withdraw_faults table b furnace l = flag_faults table b furnace l false NotHeld

abbrev pub withdraw_answer : List ℤ → Board → (furnace : ℕ) → ℤ → Change
withdraw_answer table b furnace l = flag_changed table b furnace l false NotHeld
