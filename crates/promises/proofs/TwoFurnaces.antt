-- 02, Ticket 6, on small boards: what the calls answer for each furnace. Stated as in `Boards`, over the same table.
use Rattle.meaning.proofs.Kit.{refl, true, false, Bool, List, [], ◌∷◌, ◌++◌, map, ℕ, ℤ, pos, negsuc, replicate}
use Rattle.meaning.specs.Tests.{none}
use Rattle.board.specs.Furnaces.{held_by}
use Rattle.board.specs.Faults.{number_in}
use Rattle.board.specs.Changes.{empty_board, with_flag}
use Rattle.std.specs.Prelude.{Result, Ok, Err}
use Rattle.board.specs.declared.asking.Standing.{Standing}
use Rattle.board.specs.declared.asking.Standing.TheVariants.{Conflict, Stands, Open}
use Rattle.positions.specs.Entering.{variable_of}
use Rattle.spelling.proofs.Ascii.{ascii}
use Rattle.promises.specs.Calls.{Call, opens, enters, holds, withdraws, asks, asks_whole, explains, settles, grounds, blames, reads, writes}
use Rattle.promises.specs.Calls.{reads_text, adds_text, writes_text, World, Answer, of_settle, of_ask, answer, outcome, after}
use Rattle.promises.proofs.Boards.{lent, fresh, blank, forth, AllHold}
use Rattle.promises.proofs.Computing.{the_definitions}

-- ---- what is asked of a board, and what is found

data Question : Type 0 where
  -- the numbers that calls answer, each of them made on this board
  numbers : List Call → Question
  -- all that a call tells
  all_told : Call → Question
  -- the premises of a furnace
  premises : (furnace : ℕ) → Question
  -- what is asked once one call more is made
  past : Call → Question → Question

data Found : Type 0 where
  these : List ℕ → Found
  told : Answer → Found
  flags : List Bool → Found

tell : World → Question → Found
tell w (numbers calls) = these (map (λ c. number_in (outcome w c)) calls)
tell w (all_told c) = told (answer w c)
tell w (premises furnace) = flags (held_by w.board furnace)
tell w (past c question) = tell (after w c) question

-- ---- the boards

abbrev hold : (furnace : ℕ) → ℤ → Call
hold furnace l = holds lent furnace l

abbrev withdraw : (furnace : ℕ) → ℤ → Call
withdraw furnace l = withdraws lent furnace l

abbrev explain : (furnace : ℕ) → ℤ → Call
explain furnace l = explains lent furnace l

abbrev ground : (furnace : ℕ) → ℤ → Call
ground furnace l = grounds lent furnace l (blank 4)

abbrev blame : (furnace : ℕ) → (places : ℕ) → Call
blame furnace places = blames lent furnace (blank places)

abbrev ask : (furnace : ℕ) → ℤ → Question
ask furnace l = all_told (asks lent furnace l)

abbrev settle : (furnace : ℕ) → Question
settle furnace = all_told (settles lent furnace (blank 2) (blank 4) (blank 4))

abbrev standing : Standing → Found
standing how = told (of_ask (Ok how))

-- each call that names a furnace, with a literal where it takes one, and so many places in each table that is written
abbrev named : (furnace : ℕ) → ℤ → (places : ℕ) → List Call
named furnace l places =
    hold furnace l
    ∷ withdraw furnace l
    ∷ settles lent furnace (blank places) (blank places) (blank places)
    ∷ asks lent furnace l
    ∷ asks_whole lent furnace l
    ∷ explain furnace l
    ∷ grounds lent furnace l (blank places)
    ∷ blame furnace places
    ∷ []

-- the same for numbers of no furnace
abbrev misnamed : ℤ → (places : ℕ) → List Call
misnamed l places = named 0 l places ++ named 3 l places ++ named 255 l places

-- each call on a board that names none
abbrev unnamed : List Call
unnamed =
    forth
    ∷ enters lent (variable_of 1 2)
    ∷ reads lent (ascii "p cnf 2 1\n-1 2 0\n")
    ∷ writes lent (blank 20)
    ∷ reads_text lent (ascii "1>2") (blank 20)
    ∷ adds_text lent (ascii "1>2")
    ∷ writes_text lent (0x10 ∷ 1 ∷ []) (blank 20)
    ∷ []

-- a board of 2 symbols on which one furnace holds one literal, of whatever symbol
abbrev holding : (furnace : ℕ) → ℤ → World
holding furnace l = record { board = with_flag (empty_board 2) furnace l true; table = fresh.table; stacks = fresh.stacks }

-- a board to start with, the calls that are made on it, and what is then asked
abbrev boards : List (World × List Call × List (Question × Found))
boards =
    -- "One table .. two sets of premises": both hold 1, from which 2 follows, and furnace 1 withdraws it
    (
      fresh,
      opens 2 ∷ forth ∷ hold 1 (pos 1) ∷ hold 2 (pos 1) ∷ withdraw 1 (pos 1) ∷ [],
      (ask 1 (pos 1), standing Open)
          ∷ (ask 1 (pos 2), standing Open)
          ∷ (ask 2 (pos 1), standing Stands)
          ∷ (ask 2 (pos 2), standing Stands)
          ∷ [],
    )
    -- "change no answer of the other, refusals 10 to 12 included": what is refused for one furnace is good for the other
    ∷ (
      fresh,
      opens 2 ∷ forth ∷ hold 1 (pos 1) ∷ [],
      (numbers (hold 1 (pos 1) ∷ hold 2 (pos 1) ∷ []), these (10 ∷ 0 ∷ []))
          ∷ (numbers (withdraw 2 (pos 1) ∷ withdraw 1 (pos 1) ∷ []), these (11 ∷ 0 ∷ []))
          ∷ (numbers (explain 2 (pos 2) ∷ explain 1 (pos 2) ∷ []), these (12 ∷ 0 ∷ []))
          ∷ (numbers (ground 2 (pos 2) ∷ ground 1 (pos 2) ∷ []), these (12 ∷ 0 ∷ []))
          ∷ (settle 1, told (of_settle (Ok tt) (1 ∷ 1 ∷ []) (0 ∷ none ∷ 1 ∷ none ∷ []) (none ∷ none ∷ 0 ∷ none ∷ [])))
          ∷ (settle 2, told (of_settle (Ok tt) (0 ∷ 0 ∷ []) (replicate 4 none) (replicate 4 none)))
          ∷ [],
    )
    -- "16 for a furnace number other than 1 or 2", ahead of 2 for a literal of symbol 0 or S + 1 and of 13 for tables too short, which furnace 1 gets
    ∷ (
      fresh,
      opens 2 ∷ forth ∷ hold 1 (pos 1) ∷ [],
      (numbers (misnamed (pos 1) 4), these (replicate 24 16))
          ∷ (numbers (misnamed (pos 0) 4), these (replicate 24 16))
          ∷ (numbers (misnamed (pos 3) 4), these (replicate 24 16))
          ∷ (numbers (misnamed (pos 1) 1), these (replicate 24 16))
          ∷ (numbers (misnamed (pos 0) 1), these (replicate 24 16))
          ∷ (numbers (misnamed (pos 3) 1), these (replicate 24 16))
          ∷ (numbers (named 1 (pos 3) 1), these (2 ∷ 2 ∷ 13 ∷ 2 ∷ 2 ∷ 2 ∷ 2 ∷ 13 ∷ []))
          ∷ [],
    )
    -- "just after 1": on a board that is not opened
    ∷ (fresh, [], (numbers (named 1 (pos 1) 4), these (replicate 8 1)) ∷ (numbers (misnamed (pos 0) 1), these (replicate 24 1)) ∷ [])
    -- and where "a held premise is of a symbol beyond S", also the other furnace's, and for calls that name none; 2 itself is not beyond
    ∷ (holding 2 (pos 3), [], (numbers (named 1 (pos 1) 4), these (replicate 8 1)) ∷ (numbers unnamed, these (replicate 7 1)) ∷ [])
    ∷ (holding 1 (pos 3), [], (numbers (named 2 (pos 1) 4), these (replicate 8 1)) ∷ (numbers unnamed, these (replicate 7 1)) ∷ [])
    ∷ (
      holding 2 (pos 2),
      [],
      (numbers (named 1 (pos 1) 4), these (0 ∷ 11 ∷ 0 ∷ 0 ∷ 0 ∷ 12 ∷ 12 ∷ 12 ∷ [])) ∷ (numbers unnamed, these (replicate 7 0)) ∷ [],
    )
    -- furnace 1 is in conflict, furnace 2 is not
    ∷ (
      fresh,
      opens 3 ∷ hold 1 (pos 3) ∷ hold 1 (negsuc 2) ∷ [],
      (ask 1 (pos 3), standing Conflict)
          ∷ (ask 2 (pos 3), standing Open)
          ∷ (numbers (blame 1 6 ∷ blame 2 6 ∷ []), these (0 ∷ 12 ∷ []))
          ∷ [],
    )
    -- "opening empties both sets", a refused opening too
    ∷ (
      fresh,
      opens 2 ∷ hold 1 (pos 1) ∷ hold 2 (pos 2) ∷ [],
      (past (opens 2) (premises 1), flags (replicate 400 false))
          ∷ (past (opens 2) (premises 2), flags (replicate 400 false))
          ∷ (past (opens 0) (premises 1), flags (replicate 400 false))
          ∷ (past (opens 0) (premises 2), flags (replicate 400 false))
          ∷ [],
    )
    ∷ []

two_furnaces_hold : AllHold tell boards
unfolding the_definitions tell
two_furnaces_hold = refl
