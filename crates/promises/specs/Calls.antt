-- "After every sequence of calls": the calls with all that each is lent, and what they do to the board, the caller's table and the record of the
-- stacks, by the very definitions that the contracts of `board`, `stack`, `positions`, `smallest`, `least`, `dimacs` and `text` cite.
use Rattle.std.specs.Prelude.{Result, Ok, Err, ℕ, Bool, true, false, cond, not, ◌&&◌, List, [], ◌∷◌, ◌++◌, eqb, ℤ, length, take, drop}
use Rattle.meaning.specs.Tests.{keep}
use Rattle.meaning.specs.Formulae.{Formula}
use Rattle.positions.specs.Positions.{Entry, formulae_of}
use Rattle.literals.specs.Literal.{place_of}
use Rattle.formula.specs.Parse.{whole_of}
use Rattle.formula.specs.Answers.{formula_of}
use Rattle.board.specs.Faults.{Fault, if_done}
use Rattle.board.specs.Changes.{open_faults, hold_faults, hold_answer}
use Rattle.board.specs.Rules.{rule_faults, ruled, ruled_table}
use Rattle.board.specs.Settling.{settle_faults, settle_outcome, settled_labels, settled_ranks, settled_supports}
use Rattle.board.specs.Asking.{ask_faults, asked, asked_whole, explain_faults, explain_numbers, Span, explain_part}
use Rattle.board.specs.Grounds.{ground_faults, ground_outcome, ground_marks, blame_faults, blame_outcome, blame_marks}
use Rattle.stack.specs.Stacking.{top, stack_of}
use Rattle.stack.specs.Steps.{opened_with, withdraw_faults_with, withdrawn_with, push_faults, pushed, pop_faults, popped}
use Rattle.positions.specs.Entering.{entry_faults, entered, entered_table}
use Rattle.smallest.specs.Listing.{smallest_faults, smallest_answer, smallest_sets}
use Rattle.least.specs.Withdrawing.{least_faults, least_answer}
use Rattle.dimacs.specs.Form.{parse_text}
use Rattle.dimacs.specs.Reading.{formulae_in, read_faults, read_answer, read_table}
use Rattle.dimacs.specs.Writing.{write_faults, write_answer, write_bytes}
use Rattle.chains.specs.Form.{whole_text}
use Rattle.text.specs.Reading.{read_text_faults, read_text_answer, read_text_bytes}
use Rattle.text.specs.Adding.{rule_text_faults, ruled_text, ruled_text_table}
use Rattle.text.specs.Writing.{write_text_faults, write_text_answer, write_text_bytes}
use Rattle.literals.specs.declared.refusal.Refusal.{Refusal}
use Rattle.board.specs.declared.Board.{Board}
use Rattle.board.specs.Faults.{Outcome}
use Rattle.board.specs.declared.asking.Reason.{Reason}
use Rattle.board.specs.declared.asking.Standing.{Standing}
use Rattle.stack.specs.declared.Stacks.{Stacks}
use Rattle.stack.specs.declared.Step.{Step}
use Rattle.smallest.specs.declared.Listing.{Listing}
use Rattle.least.specs.declared.Withdrawal.{Withdrawal}
use Rattle.dimacs.specs.declared.writing.Writing.{Writing}
use Rattle.text.specs.declared.Spelling.{Spelling}

-- Every call but open is lent the table "from its front": its first `lent` numbers, as many as the caller likes at each call. 02, Ticket 6: "Every
-- call but open and adding a rule names a furnace", "DIMACS and formula calls name no furnace"; Ticket 10: "no furnace is named". The two calls of
-- Ticket 13 are one here, by what is entered: a position variable or a pair table. Ticket 14: open, withdraw, push and pop are lent the one record.
pub data Call : Type 0 where
  opens : (symbols : ℕ) → Call
  adds : (lent : ℕ) (bytes : List ℕ) → Call
  enters : (lent : ℕ) (e : Entry) → Call
  holds withdraws pushes asks asks_whole explains : (lent furnace : ℕ) (l : ℤ) → Call
  pops : (lent furnace : ℕ) → Call
  settles : (lent furnace : ℕ) (labels ranks supports : List ℕ) → Call
  grounds : (lent furnace : ℕ) (l : ℤ) (marks : List ℕ) → Call
  blames : (lent furnace : ℕ) (marks : List ℕ) → Call
  lists : (lent : ℕ) (cands : List ℤ) (l : ℤ) (sets : List ℕ) → Call
  asks_least : (lent furnace : ℕ) (cands : List ℤ) → Call
  reads : (lent : ℕ) (text : List ℕ) → Call
  writes : (lent : ℕ) (out : List ℕ) → Call
  reads_text : (lent : ℕ) (text out : List ℕ) → Call
  adds_text : (lent : ℕ) (text : List ℕ) → Call
  writes_text : (lent : ℕ) (bytes out : List ℕ) → Call

-- the board, the whole table, "written by nobody else", and the record of both stacks
pub record World : Type 0 where
  pub board : Board
  pub table : List ℤ
  pub stacks : Stacks

-- the front of the table, as a call is lent it
abbrev pub front : World → ℕ → List ℤ
front w lent = take lent w.table

-- the tests of a call, in the documents' order
unfoldable pub faults : World → Call → List Fault
faults w (opens S) = open_faults S
faults w (adds lent bytes) = rule_faults (front w lent) w.board bytes
faults w (enters lent e) = entry_faults (front w lent) w.board e
faults w (holds lent furnace l) = hold_faults (front w lent) w.board furnace l
faults w (withdraws lent furnace l) = withdraw_faults_with (front w lent) w.board w.stacks furnace l
faults w (pushes lent furnace l) = push_faults (front w lent) w.board w.stacks furnace l
faults w (pops lent furnace) = pop_faults (front w lent) w.board w.stacks furnace
faults w (asks lent furnace l) = ask_faults (front w lent) w.board furnace l
faults w (asks_whole lent furnace l) = ask_faults (front w lent) w.board furnace l
faults w (explains lent furnace l) = explain_faults (front w lent) w.board furnace l
faults w (settles lent furnace labels ranks supports) =
    settle_faults (front w lent) w.board furnace (length labels) (length ranks) (length supports)
faults w (grounds lent furnace l marks) = ground_faults (front w lent) w.board furnace l (length marks)
faults w (blames lent furnace marks) = blame_faults (front w lent) w.board furnace (length marks)
faults w (lists lent cands l sets) = smallest_faults (front w lent) w.board cands l (length sets)
faults w (asks_least lent furnace cands) = least_faults (front w lent) w.board furnace cands
faults w (reads lent text) = read_faults (front w lent) w.board text
faults w (writes lent out) = write_faults (front w lent) w.board (length out)
faults w (reads_text lent text out) = read_text_faults (front w lent) w.board text (length out)
faults w (adds_text lent text) = rule_text_faults (front w lent) w.board text
faults w (writes_text lent bytes out) = write_text_faults (front w lent) w.board bytes (length out)

-- the two calls that ask answer by a standing alone: how the literal stands, which is of a call that is done, or why it is refused
abbrev pub ask_outcome : Result Standing Refusal → Outcome
ask_outcome (Ok how) = Ok tt
ask_outcome (Err why) = Err why

-- all that a call tells: what it hands back, but for the board and the clause table, which `after` has, and what it leaves in the other tables that
-- it is lent. Explain's part is told by where it lies in the clause table.
pub data Answer : Type 0 where
  of_change : Outcome → Answer
  of_addition : Outcome → (place added : ℕ) → Answer
  of_reading : Outcome → (clauses added : ℕ) → Answer
  of_writing : Writing → (out : List ℕ) → Answer
  of_spelling : Spelling → (out : List ℕ) → Answer
  of_settle : Outcome → (labels ranks supports : List ℕ) → Answer
  of_ask : Result Standing Refusal → Answer
  of_explain : Reason → Span → Answer
  of_marks : Outcome → (marks : List ℕ) → Answer
  of_listing : Listing → (sets : List ℕ) → Answer
  of_withdrawal : Withdrawal → Answer

unfoldable pub answer : World → Call → Answer
answer w (opens S) = of_change (opened_with S w.stacks).change.outcome
answer w (adds lent bytes) = let a = ruled (front w lent) w.board bytes in of_addition a.outcome a.place a.added
answer w (enters lent e) = let a = entered (front w lent) w.board e in of_addition a.outcome a.place a.added
answer w (holds lent furnace l) = of_change (hold_answer (front w lent) w.board furnace l).outcome
answer w (withdraws lent furnace l) = of_change (withdrawn_with (front w lent) w.board w.stacks furnace l).change.outcome
answer w (pushes lent furnace l) = of_change (pushed (front w lent) w.board w.stacks furnace l).change.outcome
answer w (pops lent furnace) = of_change (popped (front w lent) w.board w.stacks furnace).change.outcome
answer w (asks lent furnace l) = of_ask (asked (front w lent) w.board furnace l)
answer w (asks_whole lent furnace l) = of_ask (asked_whole (front w lent) w.board furnace l)
answer w (explains lent furnace l) = of_explain (explain_numbers (front w lent) w.board furnace l) (explain_part (front w lent) w.board furnace l)
answer w (settles lent furnace labels ranks supports) =
    of_settle (settle_outcome (front w lent) w.board furnace labels ranks supports)
    (settled_labels (front w lent) w.board furnace labels ranks supports)
    (settled_ranks (front w lent) w.board furnace labels ranks supports)
    (settled_supports (front w lent) w.board furnace labels ranks supports)
answer w (grounds lent furnace l marks) =
    of_marks (ground_outcome (front w lent) w.board furnace l marks) (ground_marks (front w lent) w.board furnace l marks)
answer w (blames lent furnace marks) =
    of_marks (blame_outcome (front w lent) w.board furnace marks) (blame_marks (front w lent) w.board furnace marks)
answer w (lists lent cands l sets) =
    of_listing (smallest_answer (front w lent) w.board cands l sets) (smallest_sets (front w lent) w.board cands l sets)
answer w (asks_least lent furnace cands) = of_withdrawal (least_answer (front w lent) w.board furnace cands)
answer w (reads lent text) = let a = read_answer (front w lent) w.board text in of_reading a.outcome a.clauses a.added
answer w (writes lent out) = of_writing (write_answer (front w lent) w.board out) (write_bytes (front w lent) w.board out)
answer w (reads_text lent text out) =
    of_spelling (read_text_answer (front w lent) w.board text out) (read_text_bytes (front w lent) w.board text out)
answer w (adds_text lent text) = let a = ruled_text (front w lent) w.board text in of_addition a.outcome a.place a.added
answer w (writes_text lent bytes out) =
    of_spelling (write_text_answer (front w lent) w.board bytes out) (write_text_bytes (front w lent) w.board bytes out)

-- what a call comes to, as its own answer tells it
abbrev pub outcome_of : Answer → Outcome
outcome_of (of_change o) = o
outcome_of (of_addition o place added) = o
outcome_of (of_reading o clauses added) = o
outcome_of (of_writing w out) = w.outcome
outcome_of (of_spelling s out) = s.outcome
outcome_of (of_settle o labels ranks supports) = o
outcome_of (of_ask s) = ask_outcome s
outcome_of (of_explain r span) = r.outcome
outcome_of (of_marks o marks) = o
outcome_of (of_listing a sets) = a.outcome
outcome_of (of_withdrawal a) = a.outcome

unfoldable pub outcome : World → Call → Outcome
outcome w c = outcome_of (answer w c)

-- a call that is lent the record leaves its own board and record
abbrev pub step_to : World → Step → World
step_to w s = record { board = s.change.board; table = w.table; stacks = s.stacks }

-- "In a sequence of calls each is given the board that the one before handed back."
unfoldable pub after : World → Call → World
after w (opens S) = step_to w (opened_with S w.stacks)
after w (adds lent bytes) =
    record {
      board = (ruled (front w lent) w.board bytes).board;
      table = ruled_table (front w lent) w.board bytes ++ drop lent w.table;
      stacks = w.stacks;
    }
after w (enters lent e) =
    record {
      board = (entered (front w lent) w.board e).board;
      table = entered_table (front w lent) w.board e ++ drop lent w.table;
      stacks = w.stacks;
    }
after w (holds lent furnace l) = record { board = (hold_answer (front w lent) w.board furnace l).board; table = w.table; stacks = w.stacks }
after w (withdraws lent furnace l) = step_to w (withdrawn_with (front w lent) w.board w.stacks furnace l)
after w (pushes lent furnace l) = step_to w (pushed (front w lent) w.board w.stacks furnace l)
after w (pops lent furnace) = step_to w (popped (front w lent) w.board w.stacks furnace)
after w (asks lent furnace l) = w
after w (asks_whole lent furnace l) = w
after w (explains lent furnace l) = w
after w (settles lent furnace labels ranks supports) = w
after w (grounds lent furnace l marks) = w
after w (blames lent furnace marks) = w
after w (lists lent cands l sets) = w
after w (asks_least lent furnace cands) = w
after w (reads lent text) =
    record {
      board = (read_answer (front w lent) w.board text).board;
      table = read_table (front w lent) w.board text ++ drop lent w.table;
      stacks = w.stacks;
    }
after w (writes lent out) = w
after w (reads_text lent text out) = w
after w (adds_text lent text) =
    record {
      board = (ruled_text (front w lent) w.board text).board;
      table = ruled_text_table (front w lent) w.board text ++ drop lent w.table;
      stacks = w.stacks;
    }
after w (writes_text lent bytes out) = w

abbrev pub run : World → List Call → World
run w [] = w
run w (c ∷ calls) = run (after w c) calls

-- each of the calls is so, where it is made, one after the other from w on
abbrev pub Each : (World → Call → Type 0) → World → List Call → Type 0
Each So w [] = Unit {0}
Each So w (c ∷ calls) = So w c × Each So (after w c) calls

-- ---- the rules accepted since the last open

-- the formula of a rule call
abbrev pub formula_in : ℕ → List ℕ → Formula
formula_in S bytes = formula_of (whole_of S bytes)

-- the rules accepted since the last open, after one call more: an open forgets them, a good rule call adds its formula, in bytes or in text, a good
-- reading those of its clauses, and a good entering those of its entry
unfoldable pub rules_after : World → List Formula → Call → List Formula
rules_after w fs (opens S) = []
rules_after w fs (adds lent bytes) = if_done (outcome w (adds lent bytes)) (fs ++ (formula_in w.board.symbols bytes ∷ [])) (λ _. fs)
rules_after w fs (enters lent e) = if_done (outcome w (enters lent e)) (fs ++ formulae_of e) (λ _. fs)
rules_after w fs (holds lent furnace l) = fs
rules_after w fs (withdraws lent furnace l) = fs
rules_after w fs (pushes lent furnace l) = fs
rules_after w fs (pops lent furnace) = fs
rules_after w fs (asks lent furnace l) = fs
rules_after w fs (asks_whole lent furnace l) = fs
rules_after w fs (explains lent furnace l) = fs
rules_after w fs (settles lent furnace labels ranks supports) = fs
rules_after w fs (grounds lent furnace l marks) = fs
rules_after w fs (blames lent furnace marks) = fs
rules_after w fs (lists lent cands l sets) = fs
rules_after w fs (asks_least lent furnace cands) = fs
rules_after w fs (reads lent text) = if_done (outcome w (reads lent text)) (fs ++ formulae_in (parse_text text)) (λ _. fs)
rules_after w fs (writes lent out) = fs
rules_after w fs (reads_text lent text out) = fs
rules_after w fs (adds_text lent text) = if_done (outcome w (adds_text lent text)) (fs ++ (formula_of (whole_text text) ∷ [])) (λ _. fs)
rules_after w fs (writes_text lent bytes out) = fs

-- and after several
abbrev pub rules_after_all : World → List Formula → List Call → List Formula
rules_after_all w fs [] = fs
rules_after_all w fs (c ∷ calls) = rules_after_all (after w c) (rules_after w fs c) calls

-- the call is no open
abbrev pub not_open : Call → Bool
not_open (opens S) = false
not_open (adds lent bytes) = true
not_open (enters lent e) = true
not_open (holds lent furnace l) = true
not_open (withdraws lent furnace l) = true
not_open (pushes lent furnace l) = true
not_open (pops lent furnace) = true
not_open (asks lent furnace l) = true
not_open (asks_whole lent furnace l) = true
not_open (explains lent furnace l) = true
not_open (settles lent furnace labels ranks supports) = true
not_open (grounds lent furnace l marks) = true
not_open (blames lent furnace marks) = true
not_open (lists lent cands l sets) = true
not_open (asks_least lent furnace cands) = true
not_open (reads lent text) = true
not_open (writes lent out) = true
not_open (reads_text lent text out) = true
not_open (adds_text lent text) = true
not_open (writes_text lent bytes out) = true

-- ---- what was entered since the last open (02, Ticket 13)

-- the entry that a call is given
abbrev pub entry_of : Call → List Entry
entry_of (opens S) = []
entry_of (adds lent bytes) = []
entry_of (enters lent e) = e ∷ []
entry_of (holds lent furnace l) = []
entry_of (withdraws lent furnace l) = []
entry_of (pushes lent furnace l) = []
entry_of (pops lent furnace) = []
entry_of (asks lent furnace l) = []
entry_of (asks_whole lent furnace l) = []
entry_of (explains lent furnace l) = []
entry_of (settles lent furnace labels ranks supports) = []
entry_of (grounds lent furnace l marks) = []
entry_of (blames lent furnace marks) = []
entry_of (lists lent cands l sets) = []
entry_of (asks_least lent furnace cands) = []
entry_of (reads lent text) = []
entry_of (writes lent out) = []
entry_of (reads_text lent text out) = []
entry_of (adds_text lent text) = []
entry_of (writes_text lent bytes out) = []

-- an open forgets what was entered, and a call that is done adds its entry
abbrev pub entries_after : World → List Entry → Call → List Entry
entries_after w entries c = cond (not_open c) (if_done (outcome w c) (entries ++ entry_of c) (λ _. entries)) []

abbrev pub entries_after_all : World → List Entry → List Call → List Entry
entries_after_all w entries [] = entries
entries_after_all w entries (c ∷ calls) = entries_after_all (after w c) (entries_after w entries c) calls

-- ---- the furnaces

-- the call names this furnace
abbrev pub names_furnace : (furnace : ℕ) → Call → Bool
names_furnace f (opens S) = false
names_furnace f (adds lent bytes) = false
names_furnace f (enters lent e) = false
names_furnace f (holds lent furnace l) = eqb furnace f
names_furnace f (withdraws lent furnace l) = eqb furnace f
names_furnace f (pushes lent furnace l) = eqb furnace f
names_furnace f (pops lent furnace) = eqb furnace f
names_furnace f (asks lent furnace l) = eqb furnace f
names_furnace f (asks_whole lent furnace l) = eqb furnace f
names_furnace f (explains lent furnace l) = eqb furnace f
names_furnace f (settles lent furnace labels ranks supports) = eqb furnace f
names_furnace f (grounds lent furnace l marks) = eqb furnace f
names_furnace f (blames lent furnace marks) = eqb furnace f
names_furnace f (lists lent cands l sets) = false
names_furnace f (asks_least lent furnace cands) = eqb furnace f
names_furnace f (reads lent text) = false
names_furnace f (writes lent out) = false
names_furnace f (reads_text lent text out) = false
names_furnace f (adds_text lent text) = false
names_furnace f (writes_text lent bytes out) = false

-- the call changes premises: it is a hold, a withdraw, a push or a pop
abbrev pub changes_premises : Call → Bool
changes_premises (opens S) = false
changes_premises (adds lent bytes) = false
changes_premises (enters lent e) = false
changes_premises (holds lent furnace l) = true
changes_premises (withdraws lent furnace l) = true
changes_premises (pushes lent furnace l) = true
changes_premises (pops lent furnace) = true
changes_premises (asks lent furnace l) = false
changes_premises (asks_whole lent furnace l) = false
changes_premises (explains lent furnace l) = false
changes_premises (settles lent furnace labels ranks supports) = false
changes_premises (grounds lent furnace l marks) = false
changes_premises (blames lent furnace marks) = false
changes_premises (lists lent cands l sets) = false
changes_premises (asks_least lent furnace cands) = false
changes_premises (reads lent text) = false
changes_premises (writes lent out) = false
changes_premises (reads_text lent text out) = false
changes_premises (adds_text lent text) = false
changes_premises (writes_text lent bytes out) = false

-- the call, if it is done, brings this furnace a rule or a premise
abbrev pub brings : (furnace : ℕ) → Call → Bool
brings f (opens S) = false
brings f (adds lent bytes) = true
brings f (enters lent e) = true
brings f (holds lent furnace l) = eqb furnace f
brings f (withdraws lent furnace l) = false
brings f (pushes lent furnace l) = eqb furnace f
brings f (pops lent furnace) = false
brings f (asks lent furnace l) = false
brings f (asks_whole lent furnace l) = false
brings f (explains lent furnace l) = false
brings f (settles lent furnace labels ranks supports) = false
brings f (grounds lent furnace l marks) = false
brings f (blames lent furnace marks) = false
brings f (lists lent cands l sets) = false
brings f (asks_least lent furnace cands) = false
brings f (reads lent text) = true
brings f (writes lent out) = false
brings f (reads_text lent text out) = false
brings f (adds_text lent text) = true
brings f (writes_text lent bytes out) = false

-- the call, if it is done, takes the premise at the place h from this furnace; a pop takes the top of its stack
abbrev pub takes : World → (furnace h : ℕ) → Call → Bool
takes w f h (opens S) = true
takes w f h (adds lent bytes) = false
takes w f h (enters lent e) = false
takes w f h (holds lent furnace l) = false
takes w f h (withdraws lent furnace l) = eqb furnace f && eqb (place_of l) h
takes w f h (pushes lent furnace l) = false
takes w f h (pops lent furnace) = eqb furnace f && eqb (place_of (top (stack_of w.stacks furnace))) h
takes w f h (asks lent furnace l) = false
takes w f h (asks_whole lent furnace l) = false
takes w f h (explains lent furnace l) = false
takes w f h (settles lent furnace labels ranks supports) = false
takes w f h (grounds lent furnace l marks) = false
takes w f h (blames lent furnace marks) = false
takes w f h (lists lent cands l sets) = false
takes w f h (asks_least lent furnace cands) = false
takes w f h (reads lent text) = false
takes w f h (writes lent out) = false
takes w f h (reads_text lent text out) = false
takes w f h (adds_text lent text) = false
takes w f h (writes_text lent bytes out) = false

-- the calls without those that change premises for this furnace
abbrev pub without : (furnace : ℕ) → List Call → List Call
without furnace calls = keep (λ c. not (changes_premises c && names_furnace furnace c)) calls
