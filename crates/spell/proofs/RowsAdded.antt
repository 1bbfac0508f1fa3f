-- The rows that a rule from text adds lie within the table.
use Rattle.meaning.proofs.Kit.{◌≡◌, refl, true, List, ◌≤◌, ℕ, ◌+◌, ◌*◌, arith, ℤ, length, not-false}
use Rattle.literals.specs.Row.{width, rows_lent}
use Rattle.chains.proofs.Words.{is_good, whole_text}
use Rattle.implicates.specs.Appending.{fits}
use Rattle.implicates.proofs.Rules.{fits_facts}
use Rattle.board.specs.Faults.{first_fault}
use Rattle.board.specs.Rules.{rule_faults, ruled, rows_of_bytes}
use Rattle.board.specs.declared.Board.{Board}
use Rattle.board.specs.Faults.{Outcome}
use Rattle.std.specs.Prelude.{Ok, Err}
use Rattle.board.specs.declared.rules.Addition.{Addition}
use Rattle.board.proofs.Answered.{none_given}
use Rattle.text.specs.Reading.{bytes_in}
use Rattle.text.specs.Adding.{ruled_text}
use Rattle.text.proofs.RuledText.{text_bytes}

module _ (table : List ℤ) (b : Board) where
  -- an accepted rule is not refused with 9
  enough : (bytes : List ℕ) → first_fault (rule_faults table b bytes) ≡ Ok tt → b.rows + length (rows_of_bytes b.symbols bytes) ≤ rows_lent table
  unfolding rule_faults
  enough bytes e =
      let rows = rows_of_bytes b.symbols bytes in
      let given = none_given (rule_faults table b bytes) e 4 in
      (fits_facts b.rows b.rules (rows_lent table) rows (not-false (fits b.rows b.rules (rows_lent table) rows) given)).0

  few : (bytes : List ℕ) → width * (ruled table b bytes).added ≤ length table
  unfolding ruled
  few bytes = go (first_fault (rule_faults table b bytes)) refl
    where
      go : (o : Outcome) → first_fault (rule_faults table b bytes) ≡ o → width * (ruled table b bytes).added ≤ length table
      go (Ok _) e = rw e (omega (arith, enough bytes e))
      go (Err why) e = rw e (omega arith)

  pub rows_within : (text : List ℕ) {told : Addition} → is_good (whole_text text) ≡ true → told ≡ ruled_text table b text
      → width * told.added ≤ length table
  rows_within text keeps e = rw (e, text_bytes table b text keeps) (few (bytes_in text))
