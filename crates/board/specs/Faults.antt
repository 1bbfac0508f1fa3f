-- 01, "Numbers of the refusals": when each is given, and which comes first.
use Rattle.std.specs.Prelude.{Result, Ok, Err, ℕ, ◌*◌, Bool, cond, not, ◌&&◌, List, [], ◌∷◌, leb, ℤ, drop}
use Rattle.meaning.specs.Tests.{any}
use Rattle.literals.specs.Row.{most_rules, rows_lent, rows_sound}
use Rattle.literals.specs.Refusals.{number_of}
use Rattle.literals.specs.declared.refusal.Refusal.{Refusal}
use Rattle.board.specs.declared.Board.{Board}

-- "a held premise is of a symbol beyond S"
abbrev pub beyond : ℕ → List Bool → Bool
beyond S held = any (λ h. h) (drop (2 * S) held)

-- none is, of either furnace's
unfoldable pub premises_fit : Board → Bool
premises_fit b = not (beyond b.symbols b.first) && not (beyond b.symbols b.second)

-- 1: "S is outside 1 to 200, rows in use exceed rows lent, a row in use isn't sound, or a held premise is of a symbol beyond S"; 02, Ticket 8:
-- "1 also for a count above 32,767"
unfoldable pub good_board : List ℤ → Board → Bool
good_board table b =
    leb 1 b.symbols && leb b.symbols 200
    && leb b.rules most_rules
    && leb b.rows (rows_lent table)
    && rows_sound b.symbols b.rules b.rows table
    && premises_fit b

-- a case of the table: when it is given, and which it is
pub record Fault : Type 0 where
  pub given : Bool
  pub refusal : Refusal

-- what a call comes to: it is done, or refused, and why
abbrev pub Outcome : Type 0
Outcome = Result (Unit {0}) Refusal

-- the first case that is given; where none is, the call is done
abbrev pub first_fault : List Fault → Outcome
first_fault [] = Ok tt
first_fault (f ∷ fs) = cond f.given (Err f.refusal) (first_fault fs)

-- what a call answers: this if it is done, and otherwise that
abbrev pub if_done : {A : Type 0} → Outcome → A → (Refusal → A) → A
if_done (Ok _) good refused = good
if_done (Err why) good refused = refused why

-- the number that a call answers by: 0 for a call that is done, else the refusal's in 01's table
abbrev pub number_in : Outcome → ℕ
number_in outcome = if_done outcome 0 number_of
