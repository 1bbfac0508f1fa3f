-- The C side's structs: plain numbers of fixed width. A premise is held where its byte is other than 0, so that any bytes are a board.
use Rattle.std.specs.Prelude.{Result, Ok, Err, ℕ, ◌<◌, Bool, not, map, eqb}
use Rattle.literals.specs.Refusals.{number_of}
use Rattle.board.specs.Faults.{if_done, number_in}
use Rattle.board.specs.Grounds.{byte_of}
use Rattle.board.specs.declared.Board.{Board}
use Rattle.board.specs.declared.Change.{Change}
use Rattle.board.specs.Faults.{Outcome}
use Rattle.board.specs.declared.rules.Addition.{Addition}
use Rattle.board.specs.declared.asking.Reason.{Reason}
use Rattle.literals.specs.declared.refusal.Refusal.{Refusal}
use Rattle.board.specs.declared.asking.Standing.{Standing}
use Rattle.board.specs.declared.asking.Standing.TheVariants.{Conflict, Stands, RuledOut, Open}
use Rattle.stack.specs.declared.Step.{Step}
use Rattle.dimacs.specs.declared.reading.Reading.{Reading}
use Rattle.dimacs.specs.declared.writing.Writing.{Writing}
use Rattle.text.specs.declared.Spelling.{Spelling}
use Rattle.smallest.specs.declared.Listing.{Listing}
use Rattle.least.specs.declared.Withdrawal.{Withdrawal}
use Rattle.panel.specs.declared.PanelBoard.{PanelBoard}
use Rattle.panel.specs.declared.PanelChange.{PanelChange}
use Rattle.panel.specs.declared.PanelAddition.{PanelAddition}
use Rattle.panel.specs.declared.PanelAnswer.{PanelAnswer}
use Rattle.panel.specs.declared.PanelReason.{PanelReason}
use Rattle.panel.specs.declared.PanelReading.{PanelReading}
use Rattle.panel.specs.declared.PanelWriting.{PanelWriting}
use Rattle.panel.specs.declared.PanelSpelling.{PanelSpelling}
use Rattle.panel.specs.declared.PanelWithdrawal.{PanelWithdrawal}
use Rattle.panel.specs.declared.PanelListing.{PanelListing}
use Rattle.panel.specs.declared.steps.PanelStep.{PanelStep}

-- any byte other than 0 is a premise held
abbrev pub flag_of : ℕ → Bool
flag_of byte = not (eqb byte 0)

-- a board from C, and a board to C
abbrev pub board_in : PanelBoard → Board
board_in b = record { symbols = b.symbols; rows = b.rows; rules = b.rules; first = map flag_of b.first; second = map flag_of b.second }

abbrev pub board_out : Board → PanelBoard
board_out b = record { symbols = b.symbols; rows = b.rows; rules = b.rules; first = map byte_of b.first; second = map byte_of b.second }

-- the three numbers of a board fit C's sixteen bits
pub record Narrow (b : Board) : Type 0 where
  pub symbols : b.symbols < 65536
  pub rows : b.rows < 65536
  pub rules : b.rules < 65536

-- a refused call hands back the very board that it was given
abbrev pub next_out : PanelBoard → Outcome → Board → PanelBoard
next_out given outcome next = if_done outcome (board_out next) (λ _. given)

abbrev pub change_out : PanelBoard → Change → PanelChange
change_out given c = record { refusal = number_in c.outcome; board = next_out given c.outcome c.board }

-- but for open, whose board goes to C whether it is refused or not
abbrev pub opened_out : Change → PanelChange
opened_out c = record { refusal = number_in c.outcome; board = board_out c.board }

-- what a call that is lent the record of the stacks tells, and the record
abbrev pub step_out : PanelBoard → Step → PanelStep
step_out given s = record { change = change_out given s.change; stacks = s.stacks }

abbrev pub addition_out : PanelBoard → Addition → PanelAddition
addition_out given a =
    record { refusal = number_in a.outcome; place = a.place; added = a.added; board = next_out given a.outcome a.board }

abbrev pub reading_out : PanelBoard → Reading → PanelReading
reading_out given r =
    record { refusal = number_in r.outcome; clauses = r.clauses; added = r.added; board = next_out given r.outcome r.board }

abbrev pub writing_out : Writing → PanelWriting
writing_out w = record { refusal = number_in w.outcome; bytes = w.bytes }

abbrev pub spelling_out : Spelling → PanelSpelling
spelling_out s = record { refusal = number_in s.outcome; place = s.place; bytes = s.bytes }

abbrev pub listing_out : Listing → PanelListing
listing_out l = record { refusal = number_in l.outcome; count = l.count }

abbrev pub withdrawal_out : Withdrawal → PanelWithdrawal
withdrawal_out w = record { refusal = number_in w.outcome; set = w.set }

-- the header's numbers for how a literal stands: 0 open, 1 stands, 2 ruled out, 3 conflict; 0 where refused
abbrev pub answer_out : Result Standing Refusal → PanelAnswer
answer_out (Ok Open) = record { refusal = 0; standing = 0 }
answer_out (Ok Stands) = record { refusal = 0; standing = 1 }
answer_out (Ok RuledOut) = record { refusal = 0; standing = 2 }
answer_out (Ok Conflict) = record { refusal = 0; standing = 3 }
answer_out (Err why) = record { refusal = number_of why; standing = 0 }

-- explain's numbers, and how many literals the part has
abbrev pub reason_out : Reason → (literals : ℕ) → PanelReason
reason_out r literals = record { refusal = number_in r.outcome; literals = literals; rank = r.rank; row = r.row; rule = r.rule }
