-- 02, Ticket 8, on small boards: the numbers of rules, counted and in rows, and tables whose numbers are not sound. Stated as in `Boards`.
use Rattle.meaning.proofs.Kit.{refl, true, false, List, [], ◌∷◌, map, ℕ, ℤ, pos, negsuc, replicate}
use Rattle.meaning.specs.Literals.{place}
use Rattle.literals.specs.Row.{Ruled}
use Rattle.board.specs.Faults.{number_in}
use Rattle.board.specs.Asking.{explain_numbers}
use Rattle.positions.specs.Entering.{variable_of}
use Rattle.spelling.proofs.Ascii.{ascii}
use Rattle.dimacs.specs.Reading.{read_answer}
use Rattle.stack.specs.Stacking.{empty_stacks}
use Rattle.promises.specs.Calls.{Call, opens, adds, enters, holds, withdraws, asks, asks_whole, explains, settles, grounds, blames, lists}
use Rattle.promises.specs.Calls.{asks_least, reads, writes, World, outcome, after}
use Rattle.promises.specs.Demands.{ruled_rows}
use Rattle.promises.proofs.Boards.{lent, fresh, blank, forth, back, AllHold}
use Rattle.promises.proofs.Computing.{the_definitions}

-- ---- what is asked of a world, and what is found

data Question : Type 0 where
  -- the rows in use with the numbers of their rules, and the count of rules
  rows count : Question
  -- the number of the rule that a literal stands on, for furnace 1
  rule_of_lem : ℤ → Question
  -- the numbers that calls answer, each of them made on this world
  numbers : List Call → Question
  -- how many clauses come before the first at fault, in a text, and its refusal
  stops : List ℕ → Question
  -- what is asked once one call more is made
  past : Call → Question → Question

data Found : Type 0 where
  these_rows : List Ruled → Found
  these : List ℕ → Found

tell : World → Question → Found
tell w rows = these_rows (ruled_rows w)
tell w count = these (w.board.rules ∷ [])
tell w (rule_of_lem l) = these ((explain_numbers w.table w.board 1 l).rule ∷ [])
tell w (numbers calls) = these (map (λ c. number_in (outcome w c)) calls)
tell w (stops text) = let a = read_answer w.table w.board text in these (number_in a.outcome ∷ a.clauses ∷ [])
tell w (past c question) = tell (after w c) question

-- ---- the calls and the worlds

-- 1 or not 1, which is always true; 1 and not 1, which never is; and 1 to 9, joined by "or"
abbrev always : Call
always = adds lent (0x13 ∷ 0x10 ∷ 1 ∷ 0x11 ∷ 0x10 ∷ 1 ∷ [])

abbrev never : Call
never = adds lent (0x12 ∷ 0x10 ∷ 1 ∷ 0x11 ∷ 0x10 ∷ 1 ∷ [])

abbrev nine : Call
nine =
    adds lent
    (0x13 ∷ 0x10 ∷ 1 ∷ 0x13 ∷ 0x10 ∷ 2 ∷ 0x13 ∷ 0x10 ∷ 3 ∷ 0x13 ∷ 0x10 ∷ 4 ∷ 0x13 ∷ 0x10 ∷ 5
    ∷ 0x13 ∷ 0x10 ∷ 6 ∷ 0x13 ∷ 0x10 ∷ 7 ∷ 0x13 ∷ 0x10 ∷ 8 ∷ 0x10 ∷ 9 ∷ [])

-- every call that tests the board, but for those of a formula's text, which test it in the same way
abbrev each : List Call
each =
    forth
    ∷ enters lent (variable_of 1 2)
    ∷ holds lent 1 (pos 1)
    ∷ withdraws lent 1 (pos 1)
    ∷ asks lent 1 (pos 1)
    ∷ asks_whole lent 1 (pos 1)
    ∷ explains lent 1 (pos 1)
    ∷ settles lent 1 (blank 2) (blank 4) (blank 4)
    ∷ grounds lent 1 (pos 1) (blank 4)
    ∷ blames lent 1 (blank 4)
    ∷ lists lent (pos 1 ∷ []) (pos 2) (blank 1)
    ∷ asks_least lent 1 (pos 1 ∷ [])
    ∷ reads lent (ascii "p cnf 2 1\n-1 2 0\n")
    ∷ writes lent (blank 20)
    ∷ []

-- what these answer where the board is good, and 1 is held: it is held already and has nothing to explain, there is no conflict, and 20 bytes are too
-- few for the text of two rows
abbrev taken : List ℕ
taken = 0 ∷ 0 ∷ 10 ∷ 0 ∷ 0 ∷ 0 ∷ 12 ∷ 0 ∷ 0 ∷ 12 ∷ 0 ∷ 0 ∷ 0 ∷ 13 ∷ []

-- two rows, 1 implies 2 and 2 implies 1, whose rules have these numbers, where so many rules are counted; 1 is held
abbrev numbered_so : (first second : ℤ) → (rules : ℕ) → World
numbered_so first second rules =
    record {
      board = record { symbols = 2; rows = 2; rules = rules; first = true ∷ replicate 399 false; second = replicate 400 false };
      table =
          negsuc 0 ∷ pos 2 ∷ pos 0 ∷ pos 0 ∷ pos 0 ∷ pos 0 ∷ pos 0 ∷ pos 0 ∷ first
          ∷ pos 1 ∷ negsuc 1 ∷ pos 0 ∷ pos 0 ∷ pos 0 ∷ pos 0 ∷ pos 0 ∷ pos 0 ∷ second
          ∷ replicate 54 (pos 0);
      stacks = empty_stacks;
    }

-- no rows, of so many rules
abbrev pub counted_so : (symbols rules : ℕ) → World
counted_so symbols rules =
    record {
      board = record { symbols = symbols; rows = 0; rules = rules; first = replicate 400 false; second = replicate 400 false };
      table = replicate lent (pos 0);
      stacks = empty_stacks;
    }

-- the row 1 implies 2, and the row 2 implies 1, of a rule
abbrev forth_of : ℕ → Ruled
forth_of rule = record { rule = rule; row = place 1 false ∷ place 2 true ∷ [] }

abbrev back_of : ℕ → Ruled
back_of rule = record { rule = rule; row = place 1 true ∷ place 2 false ∷ [] }

abbrev boards : List (World × List Call × List (Question × Found))
boards =
    -- "the number of its rule, from 1 in order of acceptance, rules with no rows counted": the second has none
    (
      fresh,
      opens 2 ∷ forth ∷ always ∷ back ∷ holds lent 1 (pos 2) ∷ [],
      (rows, these_rows (forth_of 1 ∷ back_of 3 ∷ []))
          ∷ (count, these (3 ∷ []))
          ∷ (rule_of_lem (pos 1), these (3 ∷ []))
          ∷ (rule_of_lem (pos 2), these (0 ∷ []))
          ∷ (past (holds lent 1 (pos 1)) (past (withdraws lent 1 (pos 2)) (rule_of_lem (pos 2))), these (1 ∷ []))
          -- "every open, a refused one too, sets the count to 0"
          ∷ (past (opens 2) count, these (0 ∷ []))
          ∷ (past (opens 0) count, these (0 ∷ []))
          ∷ [],
    )
    -- a refused rule is not counted
    ∷ (
      fresh,
      opens 2 ∷ forth ∷ [],
      (numbers (never ∷ []), these (8 ∷ []))
          ∷ (past never count, these (1 ∷ []))
          ∷ (past never (past back rows), these_rows (forth_of 1 ∷ back_of 2 ∷ []))
          ∷ [],
    )
    -- a clause of a DIMACS text is a rule and counts, one that is always true too
    ∷ (
      fresh,
      opens 2 ∷ reads lent (ascii "p cnf 2 3\n-1 2 0\n1 -1 0\n-2 1 0\n") ∷ [],
      (rows, these_rows (forth_of 1 ∷ back_of 3 ∷ [])) ∷ (count, these (3 ∷ [])) ∷ [],
    )
    -- "A row is sound only if its rule number is from 1 to that count and not below that of the row before": rules 1 and 2 of 2, and both rows of
    -- rule 7 of 9; but not a falling number, one that is 0 or below, or one beyond the count
    ∷ (numbered_so (pos 1) (pos 2) 2, [], (numbers each, these taken) ∷ (rule_of_lem (pos 2), these (1 ∷ [])) ∷ [])
    ∷ (numbered_so (pos 7) (pos 7) 9, [], (numbers each, these taken) ∷ (rule_of_lem (pos 2), these (7 ∷ [])) ∷ [])
    ∷ (numbered_so (pos 2) (pos 1) 2, [], (numbers each, these (replicate 14 1)) ∷ [])
    ∷ (numbered_so (pos 0) (pos 2) 2, [], (numbers each, these (replicate 14 1)) ∷ [])
    ∷ (numbered_so (negsuc 0) (pos 2) 2, [], (numbers each, these (replicate 14 1)) ∷ [])
    ∷ (numbered_so (pos 1) (pos 3) 2, [], (numbers each, these (replicate 14 1)) ∷ [])
    -- "1 also for a count above 32,767; 9 also when it is 32,767": the 32,767th rule is accepted, and the 32,768th is not, with rows or without; 7
    -- and 8 come before
    ∷ (
      counted_so 2 32766,
      forth ∷ [],
      (rows, these_rows (forth_of 32767 ∷ []))
          ∷ (count, these (32767 ∷ []))
          ∷ (numbers (back ∷ always ∷ never ∷ []), these (9 ∷ 9 ∷ 8 ∷ []))
          ∷ (past always count, these (32767 ∷ []))
          ∷ [],
    )
    ∷ (counted_so 2 32766, always ∷ [], (count, these (32767 ∷ [])) ∷ (rows, these_rows []) ∷ [])
    ∷ (counted_so 2 32766, [], (stops (ascii "p cnf 2 2\n1 -1 0\n-2 1 0\n"), these (9 ∷ 1 ∷ [])) ∷ [])
    ∷ (counted_so 9 32767, [], (numbers (nine ∷ forth ∷ []), these (7 ∷ 9 ∷ [])) ∷ [])
    ∷ (counted_so 2 32768, [], (numbers each, these (replicate 14 1)) ∷ [])
    ∷ []

numbered_boards_hold : AllHold tell boards
unfolding the_definitions tell
numbered_boards_hold = refl
