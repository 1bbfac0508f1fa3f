-- A command's own body, cut short or whole.
use Rattle.meaning.proofs.Kit.{◌≡◌, refl, List, ◌≤◌, ℕ, ◌<◌, ◌-◌, ◌+◌, arith, ℤ, length, get_or, drop, take, length-drop, ⊎_elim, lt-ltb, le-ltb}
use Rattle.meaning.proofs.Tables.{le_or_lt}
use Rattle.literals.specs.declared.refusal.Refusal.{Refusal}
use Rattle.literals.specs.declared.refusal.Refusal.TheVariants.{CutShort}
use Rattle.board.specs.Faults.{if_done}
use Rattle.board.specs.Changes.{opened, hold_answer, withdraw_answer}
use Rattle.board.specs.Rules.{ruled}
use Rattle.board.specs.Asking.{asked, explain_part, explain_numbers}
use Rattle.board.specs.declared.Board.{Board}
use Rattle.board.specs.declared.Change.{Change}
use Rattle.board.specs.Faults.{Outcome}
use Rattle.std.specs.Prelude.{Result, Ok, Err}
use Rattle.board.specs.declared.asking.Standing.{Standing}
use Rattle.board.specs.declared.asking.Standing.TheVariants.{Conflict, Stands, RuledOut, Open as Unsettled}
use Rattle.lines.specs.Words.{ok_word}
use Rattle.lines.specs.Commands.{accepted, ask_said, body_length, body_said, change_said, command_at, command_said, command_table, formula_bytes}
use Rattle.lines.specs.Commands.{formula_length, journal_furnace, literal_in, of_bytes, of_call, reason_text, refused, refused_at, rows_text, Said}
use Rattle.lines.specs.Commands.{said, word_of}
use Rattle.lines.specs.declared.commands.Command.{Command}
use Rattle.lines.specs.declared.commands.Command.TheVariants.{Open, Rule, Hold, Drop, Ask, Why, Other}
use Rattle.lines.proofs.Reading.{formula_most}

-- a command's word has at most five bytes
pub word_most : (command : Command) → length (word_of command) ≤ 5
word_most Open = omega arith
word_most Rule = omega arith
word_most Hold = omega arith
word_most Drop = omega arith
word_most Ask = omega arith
word_most Why = omega arith
word_most Other = omega arith

module _ (b : Board) (table : List ℤ) (body : List ℕ) where
  pub cut_said : (command : Command) → length body < body_length command
      → command_said b table body command ≡ refused b (1 + length body) of_bytes CutShort
  unfolding command_said
  cut_said command h = rw (lt-ltb (length body) (body_length command) h)

  pub whole_said : (command : Command) → body_length command ≤ length body → command_said b table body command ≡ body_said b table body command
  unfolding command_said
  whole_said command h = rw (le-ltb (length body) (body_length command) h)

  -- a command that is cut short changes no table: a rule has no body of its own
  pub cut_table : (command : Command) → length body < body_length command → table ≡ command_table b table body command
  unfolding command_table
  cut_table Open h = refl
  cut_table Rule h = absurd (omega arith)
  cut_table Hold h = refl
  cut_table Drop h = refl
  cut_table Ask h = refl
  cut_table Why h = refl
  cut_table Other h = refl

-- ---- a command takes its kind byte at least, and no byte beyond the input

-- however a call ends, its command takes as many bytes
ending_used : (o : Outcome) (b : Board) (used : ℕ) (text : List ℕ) (other : Refusal → Said) → ((why : Refusal) → (other why).used ≡ used)
    → (if_done o (accepted b used text) other).used ≡ used
ending_used (Ok _) b used text other h = refl
ending_used (Err why) b used text other h = h why

change_used : (used : ℕ) (c : Change) → (change_said used c).used ≡ used
change_used used c = ending_used c.outcome c.board used ok_word (refused c.board used of_call) (λ why. refl)

standing_used : (b : Board) (s : Result Standing Refusal) → (ask_said b s).used ≡ 3
standing_used b (Ok Conflict) = refl
standing_used b (Ok Stands) = refl
standing_used b (Ok RuledOut) = refl
standing_used b (Ok Unsettled) = refl
standing_used b (Err why) = refl

abbrev Within : ℕ → ℕ → Type 0
Within most n = (1 ≤ n) × (n ≤ 1 + most)

module _ (b : Board) (table : List ℤ) (body : List ℕ) where
  body_used : (command : Command) → body_length command ≤ length body → Within (length body) (body_said b table body command).used
  body_used Open h = rw (change_used 2 (opened (get_or body 0 0))) (omega arith, omega arith)
  body_used Rule h =
      let size = formula_length b.symbols body in
      let a = ruled table b (formula_bytes b body) in
      let rows = rows_text b.rows a.added in
      rw (ending_used a.outcome a.board (1 + size) rows (refused_at a.board (1 + size) a.place) (λ why. refl))
      (omega arith, omega (arith, formula_most b.symbols body))
  body_used Hold h = rw (change_used 3 (hold_answer table b journal_furnace (literal_in body))) (omega arith, omega arith)
  body_used Drop h = rw (change_used 3 (withdraw_answer table b journal_furnace (literal_in body))) (omega arith, omega arith)
  body_used Ask h = rw (standing_used b (asked table b journal_furnace (literal_in body))) (omega arith, omega arith)
  body_used Why h =
      let r = explain_numbers table b journal_furnace (literal_in body) in
      let s = explain_part table b journal_furnace (literal_in body) in
      let reason = reason_text r.rank r.row (take (s.stop - s.start) (drop s.start table)) in
      rw (ending_used r.outcome b 3 reason (refused b 3 of_call) (λ why. refl)) (omega arith, omega arith)
  body_used Other h = (omega arith, omega arith)

  command_used : (command : Command) → Within (length body) (command_said b table body command).used
  command_used command =
      ⊎_elim (λ h. rw (whole_said b table body command h) (body_used command h))
      (λ h. rw (cut_said b table body command h) (omega arith, omega arith)) (le_or_lt (body_length command) (length body))

pub said_used : (ordinal : ℕ) (b : Board) (table : List ℤ) (input : List ℕ) → 1 ≤ length input
    → (1 ≤ (said ordinal b table input).used) × ((said ordinal b table input).used ≤ length input)
unfolding said
said_used ordinal b table input h =
    let w = command_used b table (drop 1 input) (command_at input) in
    (w.0, omega (arith, w.1, length-drop 1 input))
