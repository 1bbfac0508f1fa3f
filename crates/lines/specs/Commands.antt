-- 01, "The journal program": what one command says, and does to the board and the table.
use Rattle.std.specs.Prelude.{ℕ, zero, suc, ◌+◌, ◌*◌, ◌-◌, ◌≡◌, Bool, false, cond, List, [], ◌∷◌, ◌++◌, eqb, leb, ltb, ℤ, pos, negsuc, length, take, drop, get_or}
use Rattle.literals.specs.Refusals.{number_of}
use Rattle.literals.specs.declared.refusal.Refusal.{Refusal}
use Rattle.literals.specs.declared.refusal.Refusal.TheVariants.{CutShort, UnknownKind}
use Rattle.formula.specs.Parse.{Parsed, good, bad, levels, parse}
use Rattle.board.specs.Faults.{if_done}
use Rattle.board.specs.Changes.{opened, hold_answer, withdraw_answer}
use Rattle.board.specs.Rules.{has_place, ruled, ruled_table}
use Rattle.board.specs.Asking.{asked, explain_numbers, explain_part}
use Rattle.board.specs.declared.Board.{Board}
use Rattle.board.specs.declared.Change.{Change}
use Rattle.board.specs.declared.rules.Addition.{Addition}
use Rattle.board.specs.declared.asking.Standing.{Standing}
use Rattle.board.specs.declared.asking.Standing.TheVariants.{Conflict, Stands, RuledOut, Open as Unsettled}
use Rattle.std.specs.Prelude.{Result, Ok, Err}
use Rattle.lines.specs.declared.commands.Command.{Command}
use Rattle.lines.specs.declared.commands.Command.TheVariants.{Open, Rule, Hold, Drop, Ask, Why, Other}
use Rattle.lines.specs.declared.saying.Progress.{Progress}
use Rattle.spelling.specs.Text.{Put, natural, literal_list}
use Rattle.lines.specs.Words.{open_word, rule_word, hold_word, drop_word, ask_word, why_word, kind_word, ok_word, no_word, at_word, rows_word, stands_word}
use Rattle.lines.specs.Words.{out_word, conflict_word, rank_word, row_word, space, colon, line_end}

-- ---- the commands

-- "01 open .. 02 rule .. 03 hold, 04 withdraw, 05 ask, 06 explain"
abbrev pub command_of : ℕ → Command
command_of kind =
    cond (eqb kind 1) Open
    (cond (eqb kind 2) Rule
    (cond (eqb kind 3) Hold
    (cond (eqb kind 4) Drop
    (cond (eqb kind 5) Ask
    (cond (eqb kind 6) Why Other)))))

-- "the word `open`, `rule`, `hold`, `drop`, `ask` or `why`"; "An unknown command is its ordinal and `kind no 4`."
abbrev pub word_of : Command → List ℕ
word_of Open = open_word
word_of Rule = rule_word
word_of Hold = hold_word
word_of Drop = drop_word
word_of Ask = ask_word
word_of Why = why_word
word_of Other = kind_word

-- "open, 1 byte S; .. rule, no body, one formula follows; .. hold, .. withdraw, .. ask, .. explain, each 2 bytes"
abbrev pub body_length : Command → ℕ
body_length Open = 1
body_length Rule = 0
body_length Hold = 2
body_length Drop = 2
body_length Ask = 2
body_length Why = 2
body_length Other = 0

-- "a signed literal, low byte first"
unfoldable pub literal_in : List ℕ → ℤ
literal_in body =
    let n = get_or body 0 0 + 256 * get_or body 1 0 in
    cond (ltb n 32768) (pos n) (negsuc (65535 - n))

-- ---- what a command comes to

-- its text, the board after it, how many bytes of the input it took, and whether the program stops
pub record Said : Type 0 where
  pub text : List ℕ
  pub board : Board
  pub used : ℕ
  pub stops : Bool

-- a good call
abbrev pub accepted : Board → (used : ℕ) → (text : List ℕ) → Said
accepted b used text = record { text = text; board = b; used = used; stops = false }

-- "A refusal is `no` and its number." The program stops after one up to `last`: "after 2 to 5 in a formula, and after any refusal 1"
abbrev pub refused : Board → (used last : ℕ) → Refusal → Said
refused b used last why =
    record { text = no_word ++ natural (number_of why); board = b; used = used; stops = leb (number_of why) last }

-- the last that stops it, of a call and of the bytes of a command or a formula
abbrev pub of_call : ℕ
of_call = 1

abbrev pub of_bytes : ℕ
of_bytes = 5

-- 02, Ticket 6: "the journal works furnace 1"
abbrev pub journal_furnace : ℕ
journal_furnace = 1

-- "`ok` for open, hold and withdraw"
abbrev pub change_said : (used : ℕ) → Change → Said
change_said used c = if_done c.outcome (accepted c.board used ok_word) (refused c.board used of_call)

-- "`stands`, `out`, `open` or `conflict`"
abbrev pub ask_said : Board → Result Standing Refusal → Said
ask_said b (Ok Conflict) = accepted b 3 conflict_word
ask_said b (Ok Stands) = accepted b 3 stands_word
ask_said b (Ok RuledOut) = accepted b 3 out_word
ask_said b (Ok Unsettled) = accepted b 3 open_word
ask_said b (Err why) = refused b 3 of_call why

-- "for explain `rank R row N:` and the row's literals"
abbrev pub reason_text : (rank row : ℕ) → List ℤ → List ℕ
reason_text rank row literals = (rank_word ++ natural rank) ++ (row_word ++ natural row) ++ colon ++ literal_list literals

abbrev pub why_said : Board → List ℤ → ℤ → Said
why_said b table l =
    let reason = explain_numbers table b journal_furnace l in
    let span = explain_part table b journal_furnace l in
    if_done reason.outcome
    (accepted b 3 (reason_text reason.rank reason.row (take (span.stop - span.start) (drop span.start table))))
    (refused b 3 of_call)

-- "one formula follows": its bytes. A fault is met in whatever follows, so that all of it is tried then
abbrev pub length_of : (rest : ℕ) → Parsed → ℕ
length_of rest (good f used) = used
length_of rest (bad why at) = rest

unfoldable pub formula_length : ℕ → List ℕ → ℕ
formula_length S body = length_of (length body) (parse S levels body)

abbrev pub formula_bytes : Board → List ℕ → List ℕ
formula_bytes b body = take (formula_length b.symbols body) body

-- "`rows`, the rows in use before it and the rows it added, for a rule"
abbrev pub rows_text : (before added : ℕ) → List ℕ
rows_text before added = (rows_word ++ natural before) ++ (space ++ natural added)

-- 02, Ticket 1: "the journal line (`no 3 at 7` ..)", for the refusals of a rule that have a place: 2 to 5, since 6 can't come up here
abbrev pub place_text : Refusal → (place : ℕ) → List ℕ
place_text why place = cond (has_place (number_of why)) (at_word ++ natural place) []

abbrev pub refused_at : Board → (used place : ℕ) → Refusal → Said
refused_at b used place why =
    let s = refused b used of_bytes why in
    record { text = s.text ++ place_text why place; board = s.board; used = s.used; stops = s.stops }

abbrev pub rule_said : (before used : ℕ) → Addition → Said
rule_said before used a =
    if_done a.outcome (accepted a.board used (rows_text before a.added)) (refused_at a.board used a.place)

-- each command, its own body whole; 02, Ticket 11: "The journal's `ask` takes the new default"
abbrev pub body_said : Board → List ℤ → List ℕ → Command → Said
body_said b table body Open = change_said 2 (opened (get_or body 0 0))
body_said b table body Rule = rule_said b.rows (1 + formula_length b.symbols body) (ruled table b (formula_bytes b body))
body_said b table body Hold = change_said 3 (hold_answer table b journal_furnace (literal_in body))
body_said b table body Drop = change_said 3 (withdraw_answer table b journal_furnace (literal_in body))
body_said b table body Ask = ask_said b (asked table b journal_furnace (literal_in body))
body_said b table body Why = why_said b table (literal_in body)
body_said b table body Other = refused b 1 of_bytes UnknownKind

-- "A command's own body cut short is `no 3`, ahead of every other test."
unfoldable pub command_said : Board → List ℤ → List ℕ → Command → Said
command_said b table body command =
    cond (ltb (length body) (body_length command)) (refused b (1 + length body) of_bytes CutShort) (body_said b table body command)

-- the table after it
unfoldable pub command_table : Board → List ℤ → List ℕ → Command → List ℤ
command_table b table body Open = table
command_table b table body Rule = ruled_table table b (formula_bytes b body)
command_table b table body Hold = table
command_table b table body Drop = table
command_table b table body Ask = table
command_table b table body Why = table
command_table b table body Other = table

-- ---- the command at the front of the input, "kind byte then body"

abbrev pub command_at : List ℕ → Command
command_at input = command_of (get_or input 0 0)

-- the text as a whole line: "its ordinal from 1, the word .., then" the text
abbrev pub as_line : (ordinal : ℕ) → (word : List ℕ) → Said → Said
as_line ordinal word s = record { text = natural ordinal ++ word ++ s.text ++ line_end; board = s.board; used = s.used; stops = s.stops }

unfoldable pub said : (ordinal : ℕ) → Board → List ℤ → (input : List ℕ) → Said
said ordinal b table input = as_line ordinal (word_of (command_at input)) (command_said b table (drop 1 input) (command_at input))

unfoldable pub said_table : Board → List ℤ → (input : List ℕ) → List ℤ
said_table b table input = command_table b table (drop 1 input) (command_at input)

-- a command came to this, and its text stands in the buffer from place `at` on
pub record Did (s : Said) (progress : Progress) (before after : List ℕ) (at : ℕ) : Type 0 where
  pub board : progress.board ≡ s.board
  pub used : progress.used ≡ s.used
  pub stops : progress.stops ≡ s.stops
  pub put : Put before after at s.text progress.written

-- ---- the whole journal: every line, until the input is used up or a command stops the program

-- `most` bounds the commands; each takes a byte at least, so that the input's length is always enough
unfoldable pub lines_of : (most ordinal : ℕ) → Board → List ℤ → (input : List ℕ) → List ℕ
lines_of zero ordinal b table input = []
lines_of (suc most) ordinal b table [] = []
lines_of (suc most) ordinal b table (kind ∷ body) =
    let s = said ordinal b table (kind ∷ body) in
    s.text ++ cond s.stops [] (lines_of most (suc ordinal) s.board (said_table b table (kind ∷ body)) (drop s.used (kind ∷ body)))
