-- A text that is made lies within the bytes lent, and no more clauses come before one at fault than a header can count.
use Rattle.meaning.proofs.Kit.{List, ◌≤◌, ℕ, ◌<◌, arith, ℤ, length, drop, length-append}
use Rattle.std.proofs.Common.{Result, Ok, Err}
use Rattle.literals.specs.declared.refusal.Refusal.{Refusal}
use Rattle.board.specs.Faults.{if_done}
use Rattle.board.specs.Changes.{opened}
use Rattle.board.specs.Settling.{over}
use Rattle.board.specs.declared.Board.{Board}
use Rattle.board.specs.Faults.{Outcome}
use Rattle.dimacs.specs.Words.{beyond}
use Rattle.dimacs.specs.Form.{header_in, header_line}
use Rattle.dimacs.specs.Reading.{read_answer, read_table}
use Rattle.dimacs.specs.Writing.{text_on, write_answer, write_bytes, write_outcome}
use Rattle.dimacs.specs.declared.header.Counts.{Counts}
use Rattle.std.proofs.Common.{Option, None, Some}
use Rattle.dimacs.proofs.ClauseCount.{told_few}
use Rattle.cnf.specs.Rewriting.{Made, made, made_by, read_made, rows_made}
use Rattle.cnf.specs.declared.Fault.{Fault}
use Rattle.cnf.specs.declared.Fault.TheVariants.{NoBoard, Refused as NotMade}

-- a text has at most so many bytes; and few clauses are told
abbrev pub Fits : ℕ → Result ℕ Fault → Type 0
Fits room (Ok bytes) = bytes ≤ room
Fits room (Err (NoBoard variables)) = Unit {0}
Fits room (Err (NotMade why clauses)) = clauses < beyond

abbrev pub Within : Made → Type 0
Within m = Fits (length m.out) m.answer

rows_within : (table : List ℤ) (b : Board) (out : List ℕ) → Within (rows_made table b out)
unfolding rows_made write_answer write_bytes
rows_within table b out = go (write_outcome table b out)
  where
    go : (o : Outcome)
        → Fits (length (over o (text_on table b) out)) (if_done o (Ok (if_done o (length (text_on table b)) (λ _. 0))) (λ why. Err (NotMade why 0)))
    go (Ok _) = omega (arith, length-append (text_on table b) (drop (length (text_on table b)) out))
    go (Err why) = omega arith

-- of a call that is done and of one that is refused
either_within : (o : Outcome) (m : Made) (other : Refusal → Made) → Within m → ((why : Refusal) → Within (other why)) → Within (if_done o m other)
either_within (Ok _) m other done refused = done
either_within (Err why) m other done refused = refused why

read_within : (table : List ℤ) (b : Board) (text out : List ℕ) → Within (read_made table b text out)
unfolding read_made
read_within table b text out =
    let r = read_answer table b text in
    either_within r.outcome (rows_made (read_table table b text) r.board out) _ (rows_within (read_table table b text) r.board out)
    (λ why. told_few table b text)

by_within : (counts : Option Counts) (table : List ℤ) (text out : List ℕ) → Within (made_by counts table text out)
by_within (Some counts) table text out =
    let new = opened counts.variables in
    either_within new.outcome (read_made table new.board text out) _ (read_within table new.board text out) (λ why. tt)
by_within None table text out = omega arith

pub made_within : (table : List ℤ) (text out : List ℕ) → Within (made table text out)
unfolding made
made_within table text out = by_within (header_in (header_line text)) table text out
