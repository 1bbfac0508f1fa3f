-- What the program makes of a text, step by step: by the header, by the reading and by the writing.
use Rattle.meaning.proofs.Kit.{◌≡◌, ◌∙◌, List, ℕ, ℤ}
use Rattle.std.proofs.Common.{Ok, Err}
use Rattle.literals.specs.declared.refusal.Refusal.{Refusal}
use Rattle.literals.specs.declared.refusal.Refusal.TheVariants.{BadText}
use Rattle.board.specs.Changes.{opened}
use Rattle.board.specs.declared.Board.{Board}
use Rattle.board.specs.declared.Change.{Change}
use Rattle.dimacs.specs.Form.{header_in, header_line}
use Rattle.dimacs.specs.Reading.{read_answer, read_table}
use Rattle.dimacs.specs.Writing.{write_answer, write_bytes}
use Rattle.std.proofs.Common.{None, Some}
use Rattle.dimacs.specs.declared.header.Counts.{Counts}
use Rattle.dimacs.specs.declared.reading.Reading.{Reading}
use Rattle.dimacs.specs.declared.writing.Writing.{Writing}
use Rattle.cnf.specs.Rewriting.{Made, made, read_made, rows_made}
use Rattle.cnf.specs.declared.Fault.TheVariants.{NoBoard, Refused as NotMade}

module _ (table : List ℤ) (b : Board) (out : List ℕ) {w : Writing} {after : List ℕ}
    (w-is : w ≡ write_answer table b out) (after_is : after ≡ write_bytes table b out) where
  pub rows_done : w.outcome ≡ Ok tt → record { answer = Ok w.bytes; out = after } ≡ rows_made table b out
  unfolding rows_made
  rows_done e = rw (after_is, ← w-is, e)

  pub rows_refused : {why : Refusal} → w.outcome ≡ Err why → record { answer = Err (NotMade why 0); out = after } ≡ rows_made table b out
  unfolding rows_made
  rows_refused e = rw (after_is, ← w-is, e)

module _ (table : List ℤ) (b : Board) (text out : List ℕ) {r : Reading} (r-is : r ≡ read_answer table b text) where
  pub read_done : {m : Made} {after : List ℤ} → after ≡ read_table table b text → r.outcome ≡ Ok tt → m ≡ rows_made after r.board out
      → m ≡ read_made table b text out
  unfolding read_made
  read_done after_is e m-is = m-is ∙ rw (after_is, ← r-is, e)

  pub read_refused : {why : Refusal} → r.outcome ≡ Err why → record { answer = Err (NotMade why r.clauses); out = out } ≡ read_made table b text out
  unfolding read_made
  read_refused e = rw (← r-is, e)

module _ (table : List ℤ) (text out : List ℕ) where
  pub made_broken : None ≡ header_in (header_line text) → record { answer = Err (NotMade BadText 0); out = out } ≡ made table text out
  unfolding made
  made_broken e = rw (← e)

  module _ {n : Counts} {c : Change} (counts : Some n ≡ header_in (header_line text)) (c-is : c ≡ opened n.variables) where
    pub made_on : {m : Made} → c.outcome ≡ Ok tt → m ≡ read_made table c.board text out → m ≡ made table text out
    unfolding made
    made_on e m-is = m-is ∙ rw (← counts, ← c-is, e)

    pub made_none : {why : Refusal} → c.outcome ≡ Err why → record { answer = Err (NoBoard n.variables); out = out } ≡ made table text out
    unfolding made
    made_none e = rw (← counts, ← c-is, e)
