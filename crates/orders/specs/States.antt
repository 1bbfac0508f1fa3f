-- The desk's state and what a line does to it, as its request has it: "After each line the board, table and record are those of the call that the
-- line is, by the calls' own definitions". "A wrong line loses nothing": a refused open, which would leave a board of no symbols, is not made.
use Rattle.std.specs.Prelude.{ℕ, ◌*◌, ◌-◌, ◌≡◌, Bool, true, false, cond, not, ◌&&◌, List, [], ◌∷◌, ◌++◌, eqb, leb, ℤ, length, take, drop, replicate}
use Rattle.literals.specs.declared.refusal.Refusal.TheVariants.{BadBoard, BadLiteral, BadFurnace}
use Rattle.board.specs.Faults.{if_done}
use Rattle.board.specs.Furnaces.{is_furnace}
use Rattle.board.specs.Rules.{no_place}
use Rattle.board.specs.Faults.{Outcome}
use Rattle.std.specs.Prelude.{Ok, Err}
use Rattle.names.specs.Slots.{padded}
use Rattle.names.specs.Names.{is_known, most_named, symbol_named, table_length}
use Rattle.promises.specs.Calls.{Call, opens, World, Answer, of_change, of_addition, of_reading, of_writing, of_spelling, of_settle, of_ask, of_explain}
use Rattle.promises.specs.Calls.{of_marks, of_listing, of_withdrawal, ask_outcome, answer, outcome, after}
use Rattle.orders.specs.Lines.{Line, opening, naming, working, calling, asking, slipping, resting, line_of}
use Rattle.orders.specs.declared.Desk.{Desk}
use Rattle.orders.specs.declared.Told.{Told}
use Rattle.orders.specs.declared.Reply.{Reply}
use Rattle.orders.specs.declared.Reply.TheVariants.{Done as Made, Refused as Denied, Not, Asks, Nothing}
use Rattle.orders.specs.declared.Slip.TheVariants.{NameTaken}

-- the board, the table and the record; the furnace that lines work; and the table of names
pub record State : Type 0 where
  pub world : World
  pub furnace : ℕ
  pub names : List ℕ

abbrev pub state_of : Desk → (table : List ℤ) → (names : List ℕ) → State
state_of d table names =
    record { world = record { board = d.board; table = table; stacks = d.stacks }; furnace = d.furnace; names = names }

-- what a line is to a desk in this state: every call is lent the whole table
abbrev pub ordered : State → List ℕ → Line
ordered s line = line_of (length s.world.table) s.furnace s.names line

-- ---- what a line comes to

abbrev pub reply_of : Outcome → Reply
reply_of (Ok _) = Made
reply_of (Err why) = Denied why

abbrev pub simply : Reply → Told
simply reply = record { reply = reply; place = no_place; added = 0 }

-- what a call's own answer tells: what it came to, and of rules the place and the rows
abbrev pub told_by : Answer → Told
told_by (of_change o) = simply (reply_of o)
told_by (of_addition o place added) = record { reply = reply_of o; place = place; added = added }
told_by (of_reading o clauses added) = simply (reply_of o)
told_by (of_writing w out) = simply (reply_of w.outcome)
told_by (of_spelling s out) = simply (reply_of s.outcome)
told_by (of_settle o labels ranks supports) = simply (reply_of o)
told_by (of_ask s) = simply (reply_of (ask_outcome s))
told_by (of_explain r span) = simply (reply_of r.outcome)
told_by (of_marks o marks) = simply (reply_of o)
told_by (of_listing a sets) = simply (reply_of a.outcome)
told_by (of_withdrawal a) = simply (reply_of a.outcome)

-- a name: 1 where no board is open, 2 for no symbol of the board; and no two symbols have one name
abbrev pub is_taken : (names : List ℕ) → (s : ℕ) → (word : List ℕ) → Bool
is_taken names s word = is_known names word && not (eqb (symbol_named names word) s)

abbrev pub is_symbol : (S s : ℕ) → Bool
is_symbol S s = leb 1 s && leb s S && leb s most_named

unfoldable pub named_reply : (S : ℕ) → (names : List ℕ) → (s : ℕ) → (word : List ℕ) → Told
named_reply S names s word =
    cond (eqb S 0) (simply (Denied BadBoard))
    (cond (not (is_symbol S s)) (simply (Denied BadLiteral))
    (cond (is_taken names s word) (record { reply = Not NameTaken; place = 2; added = 0 }) (simply Made)))

-- a furnace: 16 for another number
abbrev pub work_reply : (f : ℕ) → Reply
work_reply f = cond (is_furnace f) Made (Denied BadFurnace)

abbrev pub worked : (before f : ℕ) → ℕ
worked before f = cond (is_furnace f) f before

unfoldable pub tells : State → Line → Told
tells s (opening S) = told_by (answer s.world (opens S))
tells s (naming n word) = named_reply s.world.board.symbols s.names n word
tells s (working f) = simply (work_reply f)
tells s (calling c) = told_by (answer s.world c)
tells s asking = simply Asks
tells s (slipping slip k) = record { reply = Not slip; place = k; added = 0 }
tells s resting = simply Nothing

-- ---- the state after it

abbrev pub is_made : Reply → Bool
is_made Made = true
is_made (Denied why) = false
is_made (Not slip) = false
is_made Asks = false
is_made Nothing = false

-- symbol s is at slot s − 1, of 24 bytes
abbrev pub with_name : (names : List ℕ) → (s : ℕ) → (word : List ℕ) → List ℕ
with_name names s word =
    let at = 24 * (s - 1) in
    take at names ++ (padded 24 word ++ drop 24 (drop at names))

unfoldable pub did : State → Line → State
did s (opening S) =
    if_done (outcome s.world (opens S))
    (record { world = after s.world (opens S); furnace = 1; names = replicate table_length 0 })
    (λ _. s)
did s (naming n word) =
    cond (is_made (tells s (naming n word)).reply)
    (record { world = s.world; furnace = s.furnace; names = with_name s.names n word })
    s
did s (working f) = record { world = s.world; furnace = worked s.furnace f; names = s.names }
did s (calling c) = record { world = after s.world c; furnace = s.furnace; names = s.names }
did s asking = s
did s (slipping slip k) = s
did s resting = s

-- the calls that a line is
abbrev pub calls_of : State → Line → List Call
calls_of s (opening S) = if_done (outcome s.world (opens S)) (opens S ∷ []) (λ _. [])
calls_of s (naming n word) = []
calls_of s (working f) = []
calls_of s (calling c) = c ∷ []
calls_of s asking = []
calls_of s (slipping slip k) = []
calls_of s resting = []

-- a line brought the desk from one state to another, and came to this
pub record Does (before after : State) (line : Line) (told : Told) : Type 0 where
  pub moved : after ≡ did before line
  pub says : told ≡ tells before line
