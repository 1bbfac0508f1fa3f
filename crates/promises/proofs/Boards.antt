-- 01's boards "Marked P: to be proved", together: what 01 says of each, and that the calls come to the same; and those of 02's Tickets 1, 2, 4
-- and 5. Rules are given as 01's bytes or as text, each board is opened over a table of 8 rows of zeros, and the premises are furnace 1's.
use Rattle.literals.specs.declared.refusal.Refusal.{Refusal}
use Rattle.std.specs.Prelude.{Result, Ok, Err}
use Rattle.meaning.proofs.Kit.{◌≡◌, refl, List, [], ◌∷◌, ◌++◌, map, ℕ, ◌*◌, ℤ, pos, negsuc, take, replicate}
use Rattle.board.specs.Faults.{number_in}
use Rattle.board.specs.Changes.{empty_board}
use Rattle.board.specs.Rules.{no_place, ruled}
use Rattle.board.specs.Settling.{settled_labels}
use Rattle.board.specs.Asking.{asked, explain_numbers}
use Rattle.board.specs.Grounds.{blame_marks}
use Rattle.board.specs.declared.asking.Standing.{Standing}
use Rattle.board.specs.declared.asking.Standing.TheVariants.{Conflict, Stands, RuledOut, Open}
use Rattle.spelling.proofs.Ascii.{ascii}
use Rattle.dimacs.specs.Reading.{read_answer}
use Rattle.dimacs.specs.Writing.{write_answer, write_bytes}
use Rattle.text.specs.Reading.{read_text_answer, read_text_bytes}
use Rattle.text.specs.Adding.{ruled_text}
use Rattle.text.specs.Writing.{write_text_answer, write_text_bytes}
use Rattle.stack.specs.Stacking.{empty_stacks}
use Rattle.promises.specs.Calls.{Call, opens, adds, holds, withdraws, reads, adds_text, World, outcome, after, run}
use Rattle.promises.specs.Demands.{rows_of_world}
use Rattle.meaning.proofs.Names.{plus, minus}
use Rattle.promises.proofs.Computing.{the_definitions}

-- ---- what is asked of the board that some calls leave, and what the answers are

data Question : Type 0 where
  -- the number of the refusal of one call more
  refusal : Call → Question
  -- where a formula breaks, added as a rule, in bytes or in text
  breaks breaks-text : List ℕ → Question
  -- the rows in use
  rows : Question
  -- the labels that settle writes
  labels : Question
  -- how a literal stands, and its rank
  ask : ℤ → Question
  rank : ℤ → Question
  -- the marks that blame writes, for each symbol + and then −
  marks : Question
  -- how many clauses come before the first at fault, in a text
  stops : List ℕ → Question
  -- the text that is written
  written : Question
  -- the bytes that a formula's text is read to, and the text that is written of a formula's bytes
  read spell : List ℕ → Question
  -- what is asked once one call more is made
  past : Call → Question → Question

data Answer : Type 0 where
  number : ℕ → Answer
  refused_at_lem : (refusal place : ℕ) → Answer
  stopped : (refusal clauses : ℕ) → Answer
  appended_rows : List (List ℕ) → Answer
  bytes : List ℕ → Answer
  asked_is : Result Standing Refusal → Answer

abbrev standing : Standing → Answer
standing how = asked_is (Ok how)

-- ---- the answers by the calls

-- how many numbers the table has, and how many are lent to each call: 8 rows
abbrev pub lent : ℕ
lent = 72

-- whose premises are held and asked for
abbrev furnace : ℕ
furnace = 1

-- before every call: no board yet, and a table of zeros
abbrev pub fresh : World
fresh = record { board = empty_board 0; table = replicate lent (pos 0); stacks = empty_stacks }

-- a table to be written
abbrev pub blank : ℕ → List ℕ
blank n = replicate n 9

tell : World → Question → Answer
tell w (refusal c) = number (number_in (outcome w c))
tell w (breaks formula) = let a = ruled w.table w.board formula in refused_at_lem (number_in a.outcome) a.place
tell w (breaks-text text) = let a = ruled_text w.table w.board text in refused_at_lem (number_in a.outcome) a.place
tell w rows = appended_rows (rows_of_world w)
tell w labels = let S = w.board.symbols in bytes (settled_labels w.table w.board furnace (blank S) (blank (2 * S)) (blank (2 * S)))
tell w (ask l) = asked_is (asked w.table w.board furnace l)
tell w (rank l) = number (explain_numbers w.table w.board furnace l).rank
tell w marks = bytes (blame_marks w.table w.board furnace (blank (2 * w.board.symbols)))
tell w (stops text) = let a = read_answer w.table w.board text in stopped (number_in a.outcome) a.clauses
tell w written = bytes (take (write_answer w.table w.board (blank 100)).bytes (write_bytes w.table w.board (blank 100)))
tell w (read text) = bytes (take (read_text_answer w.table w.board text (blank 20)).bytes (read_text_bytes w.table w.board text (blank 20)))
tell w (spell formula) =
    bytes (take (write_text_answer w.table w.board formula (blank 20)).bytes (write_text_bytes w.table w.board formula (blank 20)))
tell w (past c question) = tell (after w c) question

-- ---- the boards

abbrev rule : List ℕ → Call
rule formula = adds lent formula

abbrev hold : ℤ → Call
hold l = holds lent furnace l

abbrev withdraw : ℤ → Call
withdraw l = withdraws lent furnace l

-- the literals +s and −s in a row
-- the rules that more than one board has: 1 implies 2, not 1 implies 2, 2 implies 1
abbrev pub forth : Call
forth = rule (0x14 ∷ 0x10 ∷ 1 ∷ 0x10 ∷ 2 ∷ [])

abbrev otherwise : Call
otherwise = rule (0x14 ∷ 0x11 ∷ 0x10 ∷ 1 ∷ 0x10 ∷ 2 ∷ [])

abbrev pub back : Call
back = rule (0x14 ∷ 0x10 ∷ 2 ∷ 0x10 ∷ 1 ∷ [])

-- 1 implies 2, 2 implies 3, as clauses of a text; and a text that says that it has another clause
abbrev chain : Call
chain = reads lent (ascii "c a chain\np cnf 3 2\n-1 2 0 -2\n 03 0\n")

abbrev short : Call
short = reads lent (ascii "p cnf 3 2\n-3 0\n")

-- 3 implies 6, 4 implies not 6, 6 implies 5, 5 and 2 imply 1, not 6 implies not 1; and 2, 3 and 4 held
abbrev consequence : List Call
consequence = opens 6 ∷ reads lent (ascii "p cnf 6 5\n-3 6 0\n-4 -6 0\n-6 5 0\n-5 -2 1 0\n6 -1 0\n") ∷ hold (pos 2) ∷ hold (pos 3) ∷ hold (pos 4) ∷ []

-- Quoted from 01; the sentence on places from 02, Ticket 1, those on texts from Ticket 2, those on blame from Ticket 4, those on a
-- formula's text from Ticket 5.
abbrev boards : List (List Call × List (Question × Answer))
boards =
    -- "1 and not 1: refusal 8. 1 or not 1: no row."
    (opens 1 ∷ [], (refusal (rule (0x12 ∷ 0x10 ∷ 1 ∷ 0x11 ∷ 0x10 ∷ 1 ∷ [])), number 8) ∷ [])
    ∷ (opens 1 ∷ rule (0x13 ∷ 0x10 ∷ 1 ∷ 0x11 ∷ 0x10 ∷ 1 ∷ []) ∷ [], (rows, appended_rows []) ∷ [])
    -- "(1 implies 2) and (1 or 2): the row 2 alone."
    ∷ (opens 2 ∷ rule (0x12 ∷ 0x14 ∷ 0x10 ∷ 1 ∷ 0x10 ∷ 2 ∷ 0x13 ∷ 0x10 ∷ 1 ∷ 0x10 ∷ 2 ∷ []) ∷ [], (rows, appended_rows ((plus 2 ∷ []) ∷ [])) ∷ [])
    -- "1 same 2: rows 1 −2; −1 2."
    ∷ (opens 2 ∷ rule (0x15 ∷ 0x10 ∷ 1 ∷ 0x10 ∷ 2 ∷ []) ∷ [], (rows, appended_rows ((plus 1 ∷ minus 2 ∷ []) ∷ (minus 1 ∷ plus 2 ∷ []) ∷ [])) ∷ [])
    -- "(1 or 2) and (not 1 or 3): rows 1 2; −1 3; 2 3."
    ∷ (
      opens 3 ∷ rule (0x12 ∷ 0x13 ∷ 0x10 ∷ 1 ∷ 0x10 ∷ 2 ∷ 0x13 ∷ 0x11 ∷ 0x10 ∷ 1 ∷ 0x10 ∷ 3 ∷ []) ∷ [],
      (rows, appended_rows ((plus 1 ∷ plus 2 ∷ []) ∷ (minus 1 ∷ plus 3 ∷ []) ∷ (plus 2 ∷ plus 3 ∷ []) ∷ [])) ∷ [],
    )
    -- "1 or (1 and 2): the row 1."
    ∷ (opens 2 ∷ rule (0x13 ∷ 0x10 ∷ 1 ∷ 0x12 ∷ 0x10 ∷ 1 ∷ 0x10 ∷ 2 ∷ []) ∷ [], (rows, appended_rows ((plus 1 ∷ []) ∷ [])) ∷ [])
    -- "rules 1 implies 2, not 1 implies 2, nothing held: 2 is open."
    ∷ (opens 2 ∷ forth ∷ otherwise ∷ [], (ask (pos 2), standing Open) ∷ (labels, bytes (0 ∷ 0 ∷ [])) ∷ [])
    -- "both joined by "and" in one rule: 2 stands, rank 1."
    ∷ (
      opens 2 ∷ rule (0x12 ∷ 0x14 ∷ 0x10 ∷ 1 ∷ 0x10 ∷ 2 ∷ 0x14 ∷ 0x11 ∷ 0x10 ∷ 1 ∷ 0x10 ∷ 2 ∷ []) ∷ [],
      (ask (pos 2), standing Stands) ∷ (rank (pos 2), number 1) ∷ (labels, bytes (0 ∷ 1 ∷ [])) ∷ [],
    )
    -- "rules 1 implies 2, 2 implies 1; hold 1, withdraw 1: both open." In between both stand.
    ∷ (opens 2 ∷ forth ∷ back ∷ hold (pos 1) ∷ [], (labels, bytes (1 ∷ 1 ∷ [])) ∷ (rank (pos 2), number 1) ∷ [])
    ∷ (
      opens 2 ∷ forth ∷ back ∷ hold (pos 1) ∷ withdraw (pos 1) ∷ [],
      (labels, bytes (0 ∷ 0 ∷ [])) ∷ (ask (pos 1), standing Open) ∷ (ask (pos 2), standing Open) ∷ [],
    )
    -- "hold 3 and −3: label 3, conflict, blame marks both." 02, Ticket 11: conflict is what ask answers of 3, and not of 1
    ∷ (
      opens 3 ∷ hold (pos 3) ∷ hold (negsuc 2) ∷ [],
      (labels, bytes (0 ∷ 0 ∷ 3 ∷ [])) ∷ (ask (pos 3), standing Conflict) ∷ (ask (pos 1), standing Open)
          ∷ (marks, bytes (0 ∷ 0 ∷ 0 ∷ 0 ∷ 1 ∷ 1 ∷ []))
          ∷ [],
    )
    -- "Blame shall take, among symbols with label 3, the one whose larger rank of its two literals is smallest": 6, with rank 1 twice, and not the
    -- lowest, 1, with rank 3 and 2. So 3 and 4 are marked, and 2 is not. Held alone they are in conflict; without 3 there is none.
    ∷ (
      consequence,
      (labels, bytes (3 ∷ 3 ∷ 3 ∷ 3 ∷ 3 ∷ 3 ∷ []))
          ∷ (rank (pos 6), number 1)
          ∷ (rank (negsuc 5), number 1)
          ∷ (rank (pos 1), number 3)
          ∷ (rank (negsuc 0), number 2)
          ∷ (marks, bytes (0 ∷ 0 ∷ 0 ∷ 0 ∷ 1 ∷ 0 ∷ 1 ∷ 0 ∷ 0 ∷ 0 ∷ 0 ∷ 0 ∷ []))
          ∷ (past (withdraw (pos 2)) (ask (pos 6)), standing Conflict)
          ∷ (past (withdraw (pos 3)) (ask (pos 6)), standing RuledOut)
          ∷ [],
    )
    -- "and of equals the lowest symbol": 2, and once that conflict is ended, 3
    ∷ (
      opens 3 ∷ hold (pos 3) ∷ hold (negsuc 2) ∷ hold (pos 2) ∷ hold (negsuc 1) ∷ [],
      (labels, bytes (0 ∷ 3 ∷ 3 ∷ []))
          ∷ (marks, bytes (0 ∷ 0 ∷ 1 ∷ 1 ∷ 0 ∷ 0 ∷ []))
          ∷ (past (withdraw (negsuc 1)) marks, bytes (0 ∷ 0 ∷ 0 ∷ 0 ∷ 1 ∷ 1 ∷ []))
          ∷ [],
    )
    -- "where the operand was due for 4 and 5, of the symbol's number for 2, of the missing byte for 3, of the first byte too many for 6";
    -- none for 8, and for 1 on a board that is not opened
    ∷ (
      opens 3 ∷ [],
      (breaks (replicate 16 0x11), refused_at_lem 5 16)
          ∷ (breaks (0x14 ∷ 0x10 ∷ 1 ∷ 0x10 ∷ []), refused_at_lem 3 4)
          ∷ (breaks (0x12 ∷ 0x10 ∷ 1 ∷ 0x99 ∷ []), refused_at_lem 4 3)
          ∷ (breaks (0x13 ∷ 0x10 ∷ 1 ∷ 0x10 ∷ 0 ∷ []), refused_at_lem 2 4)
          ∷ (breaks (0x10 ∷ 1 ∷ 0x10 ∷ []), refused_at_lem 6 2)
          ∷ (breaks [], refused_at_lem 3 0)
          ∷ (breaks (0x12 ∷ 0x10 ∷ 1 ∷ 0x11 ∷ 0x10 ∷ 1 ∷ []), refused_at_lem 8 no_place)
          ∷ [],
    )
    ∷ ([], (breaks (0x99 ∷ []), refused_at_lem 1 no_place) ∷ [])
    -- "Each clause is added as one rule, in order." 3 stands by both. "Write the rows in use too"
    ∷ (
      opens 3 ∷ chain ∷ hold (pos 1) ∷ [],
      (rows, appended_rows ((minus 1 ∷ plus 2 ∷ []) ∷ (minus 2 ∷ plus 3 ∷ []) ∷ []))
          ∷ (ask (pos 3), standing Stands)
          ∷ (rank (pos 3), number 2)
          ∷ (written, bytes (ascii "p cnf 3 2\n-1 2 0\n-2 3 0\n"))
          ∷ [],
    )
    -- "15 .. ahead of all others but 1; then, for the first clause at fault, 2, 7, 8, 9 as for rules, an empty clause giving 8". "A refused reading
    -- changes nothing."
    ∷ (
      opens 3 ∷ chain ∷ hold (pos 1) ∷ [],
      (refusal short, number 15)
          ∷ (past short rows, appended_rows ((minus 1 ∷ plus 2 ∷ []) ∷ (minus 2 ∷ plus 3 ∷ []) ∷ []))
          ∷ (past short labels, bytes (1 ∷ 1 ∷ 1 ∷ []))
          ∷ (stops (ascii "p cnf 4 3\n-3 0\n3 -3 0\n-4 0\n"), stopped 2 2)
          ∷ (stops (ascii "p cnf 3 2\n-3 0\n0\n"), stopped 8 1)
          ∷ (refusal (reads 18 (ascii "p cnf 3 1\n-3 0\n")), number 9)
          ∷ [],
    )
    -- "Text and bytes of one formula add the same rows." 15 "at the first offending place"; "2 and 5 carry their place in the resulting bytes"
    ∷ (
      opens 2 ∷ adds_text lent (ascii " 1 > 02") ∷ hold (pos 1) ∷ [],
      (rows, appended_rows ((minus 1 ∷ plus 2 ∷ []) ∷ []))
          ∷ (ask (pos 2), standing Stands)
          ∷ (breaks-text (ascii "1 2"), refused_at_lem 15 2)
          ∷ (breaks-text (ascii "1&2|1"), refused_at_lem 15 3)
          ∷ (breaks-text (ascii "(1>"), refused_at_lem 15 3)
          ∷ (breaks-text (replicate 17 40), refused_at_lem 15 16)
          ∷ (breaks-text (ascii "1|-3"), refused_at_lem 2 5)
          ∷ (breaks-text (replicate 16 45 ++ ascii "1"), refused_at_lem 5 16)
          ∷ (breaks-text (ascii "1&-1"), refused_at_lem 8 no_place)
          ∷ (read (ascii "-(1 = 2) & 2"), bytes (0x12 ∷ 0x11 ∷ 0x15 ∷ 0x10 ∷ 1 ∷ 0x10 ∷ 2 ∷ 0x10 ∷ 2 ∷ []))
          ∷ (spell (0x12 ∷ 0x11 ∷ 0x15 ∷ 0x10 ∷ 1 ∷ 0x10 ∷ 2 ∷ 0x10 ∷ 2 ∷ []), bytes (ascii "-(1=2)&2"))
          ∷ [],
    )
    ∷ []

-- what the calls answer, one after the other: 0 for each that is done
abbrev pub answers : World → List Call → List ℕ
answers w [] = []
answers w (c ∷ calls) = number_in (outcome w c) ∷ answers (after w c) calls

-- boards that the calls made leave: each of these is done, and what is asked then has the answer that it shall have
abbrev pub AllHold : {Asked Found : Type 0} → (World → Asked → Found) → List (World × List Call × List (Asked × Found)) → Type 0
AllHold {Found = Found} told these =
    map {B = List ℕ × List Found} (λ b. (answers b.0 b.1, map (λ q. told (run b.0 b.1) q.0) b.2)) these
    ≡ map (λ b. (map (λ c. 0) b.1, map (λ q. q.1) b.2)) these

-- over the fresh table
abbrev pub FreshHold : {Asked Found : Type 0} → (World → Asked → Found) → List (List Call × List (Asked × Found)) → Type 0
FreshHold told these = AllHold told (map (λ b. (fresh, b.0, b.1)) these)

boards_hold : FreshHold tell boards
unfolding the_definitions tell
boards_hold = refl
