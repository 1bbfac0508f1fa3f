-- What the program makes of a text: it is read onto a board of the header's variables, and the board's rows are written.
use Rattle.std.specs.Prelude.{ℕ, Option, None, Some, List, ℤ, Result, Ok, Err}
use Rattle.literals.specs.declared.refusal.Refusal.TheVariants.{BadText}
use Rattle.board.specs.Faults.{if_done}
use Rattle.board.specs.Changes.{opened}
use Rattle.board.specs.declared.Board.{Board}
use Rattle.dimacs.specs.Form.{header_in, header_line}
use Rattle.dimacs.specs.Reading.{read_answer, read_table}
use Rattle.dimacs.specs.Writing.{write_answer, write_bytes}
use Rattle.dimacs.specs.declared.header.Counts.{Counts}
use Rattle.cnf.specs.declared.Fault.{Fault}
use Rattle.cnf.specs.declared.Fault.TheVariants.{NoBoard, Refused}

-- the answer, and the bytes lent after it
pub record Made : Type 0 where
  pub answer : Result ℕ Fault
  pub out : List ℕ

-- the rows of a board, as text
unfoldable pub rows_made : List ℤ → Board → (out : List ℕ) → Made
rows_made table b out =
    let w = write_answer table b out in
    record { answer = if_done w.outcome (Ok w.bytes) (λ why. Err (Refused why 0)); out = write_bytes table b out }

-- a text read onto a board, and its rows; or why not, and how many clauses come before the first at fault
unfoldable pub read_made : List ℤ → Board → (text out : List ℕ) → Made
read_made table b text out =
    let r = read_answer table b text in
    if_done r.outcome (rows_made (read_table table b text) r.board out) (λ why. record { answer = Err (Refused why r.clauses); out = out })

-- by what the header counts
abbrev pub made_by : Option Counts → List ℤ → (text out : List ℕ) → Made
made_by (Some counts) table text out =
    let new = opened counts.variables in
    if_done new.outcome (read_made table new.board text out) (λ _. record { answer = Err (NoBoard counts.variables); out = out })
made_by None table text out = record { answer = Err (Refused BadText 0); out = out }

unfoldable pub made : List ℤ → (text out : List ℕ) → Made
made table text out = made_by (header_in (header_line text)) table text out
