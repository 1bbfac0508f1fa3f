-- `reading::add_clauses` meets its contract: rows are appended only where nothing of the text is at fault.
use Rattle.meaning.proofs.Kit.{◌≡◌, ◌∙◌, sym, ap, List, ℕ, arith, ℤ}
use Rattle.literals.specs.Row.{rows_lent}
use Rattle.implicates.specs.Appending.{appended}
use Rattle.board.specs.declared.Board.{Board}
use Rattle.std.specs.Prelude.{Ok}
use Rattle.board.proofs.Goodness.{good_is}
use Rattle.dimacs.specs.Form.{Parsed, counted}
use Rattle.dimacs.specs.Gathering.{clauses_from}
use Rattle.dimacs.specs.Reading.{surveyed}
use Rattle.dimacs.specs.declared.survey.Survey.{Survey}
use Rattle.dimacs.proofs.LastPass.{numbered_rows}
use Rattle.dimacs.proofs.Answers.{Found, counted_done, found_is, read_done, read_refused}
use Rattle.dimacs.proofs.reading.add_clauses.Goals as goal

-- what is found of the clauses that stand there, if they are as many as the header counts
module _ (table : List ℤ) (b : Board) (p : Parsed) (clauses : ℕ) {lent : ℕ} {found : Survey} (is_lent : lent ≡ rows_lent table)
    (is : found ≡ surveyed b.symbols b.rows b.rules lent (counted clauses p)) where
  by_survey : Found b.symbols b.rows b.rules (rows_lent table) (counted clauses p) found
  by_survey = found_is b.symbols b.rows b.rules (rows_lent table) (counted clauses p) (rw is_lent at is)

  -- where nothing is at fault, they are as many
  as_many : found.outcome ≡ Ok tt → counted clauses p ≡ p
  as_many done = counted_done b.symbols b.rows b.rules (rows_lent table) clauses p (by_survey.outcome ∙ done)

pub survey_clauses-found-requires : goal.survey_clauses-found-requires
survey_clauses-found-requires c =
    let fine = good_is _ _ c.requires.board_value.0 in
    let lent = c.rows_lent-lent.ensures in
    (c.requires.board_value.1, fine.some, omega (arith, lent, fine.lent), omega (arith, lent), fine.few)

pub append-requires : goal.append-requires
append-requires c =
    let a = c.args in
    let fine = good_is _ _ c.requires.board_value.0 in
    let found = by_survey a.table.now a.board (clauses_from a.variables a.at a.text.now) a.clauses c.rows_lent-lent.ensures c.survey_clauses-found.ensures in
    let whole = as_many a.table.now a.board (clauses_from a.variables a.at a.text.now) a.clauses c.rows_lent-lent.ensures c.survey_clauses-found.ensures
    c.in-Ok.is in
    record {
      at_in_bounds = (c.requires.board_value.1, fine.some, fine.sound.symbols, fine.lent, fine.few);
      text_value = rw whole at (found.outcome ∙ c.in-Ok.is);
    }

pub done-requires : goal.done-requires
done-requires c =
    let a = c.args in
    let fine = good_is _ _ c.requires.board_value.0 in
    let found = by_survey a.table.now a.board (clauses_from a.variables a.at a.text.now) a.clauses c.rows_lent-lent.ensures c.survey_clauses-found.ensures in
    let none = found.outcome ∙ c.in-Ok.is in
    (omega (arith, found.fits none fine.lent), found.few none fine.few)

pub returns-in-Err : goal.returns-in-Err
returns-in-Err c =
    let a = c.args in
    let r = c.requires in
    let found = by_survey a.table.now a.board (clauses_from a.variables a.at a.text.now) a.clauses c.rows_lent-lent.ensures c.survey_clauses-found.ensures in
    let all = read_refused a.table.now a.board a.text.now r.board_value.0 r.text_value c.in-Err.why (found.outcome ∙ c.in-Err.is) found.clauses in
    record { value = c.refused.ensures ∙ all.0; table_after = all.1 }

pub returns-in-Ok : goal.returns-in-Ok
returns-in-Ok c =
    let a = c.args in
    let b = c.args.board in
    let r = c.requires in
    let found = by_survey a.table.now a.board (clauses_from a.variables a.at a.text.now) a.clauses c.rows_lent-lent.ensures c.survey_clauses-found.ensures in
    let whole = as_many a.table.now a.board (clauses_from a.variables a.at a.text.now) a.clauses c.rows_lent-lent.ensures c.survey_clauses-found.ensures
    c.in-Ok.is in
    let none = found.outcome ∙ c.in-Ok.is in
    let all = read_done a.table.now b a.text.now r.board_value.0 r.text_value none (found.all_clauses none) (found.added none) in
    let rows = ap (λ (p : Parsed). appended a.table.now b.rows (numbered_rows b.symbols b.rules p)) (sym whole) in
    record { value = c.done.ensures ∙ all.0; table_after = c.append.ensures ∙ rows ∙ all.1 }
