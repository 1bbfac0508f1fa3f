-- How many clauses a text has and how many are passed, and that the rows of a reading that is done have room, and its clauses numbers.
use Rattle.meaning.proofs.Kit.{◌≡◌, refl, true, cond, ◌&&◌, List, [], ◌∷◌, ◌≤◌, ℕ, ◌<◌, ◌+◌, suc, arith, eqb, ltb, ℤ, length, drop, not-false}
use Rattle.meaning.proofs.Kit.{eqb-true, ltb-true}
use Rattle.meaning.proofs.Tests.{both_true}
use Rattle.literals.specs.Row.{most_rules, rows_lent}
use Rattle.board.specs.Faults.{good_board, first_fault, if_done}
use Rattle.board.specs.declared.Board.{Board}
use Rattle.board.specs.Faults.{Outcome}
use Rattle.std.specs.Prelude.{Ok, Err}
use Rattle.board.proofs.Answered.{none_given}
use Rattle.board.proofs.Goodness.{good_is}
use Rattle.dimacs.specs.Words.{beyond, number_of, words}
use Rattle.dimacs.specs.Form.{Parsed, good, broken, body_of, body, clauses_in, clauses_of, counted, counts_in, header_in, header_line, header_start}
use Rattle.dimacs.specs.Form.{parse_text, starts_with}
use Rattle.dimacs.specs.Clauses.{clause_faults, clauses_faults, passed, rows_of_clause}
use Rattle.dimacs.specs.Reading.{read_answer, read_faults, rows_of_text, text_faults}
use Rattle.dimacs.specs.declared.header.Counts.{Counts}
use Rattle.std.proofs.Common.{Option, None, Some}
use Rattle.dimacs.proofs.FirstFaults.{clauses_fit, clauses_numbered}
use Rattle.dimacs.proofs.Tested.{by_test}

-- those before the first at fault are not more than all
pub passed_most : (S used rules lent : ℕ) (cs : List (List ℤ)) → passed S used rules lent cs ≤ length cs
unfolding passed
passed_most S used rules lent [] = omega arith
passed_most S used rules lent (c ∷ cs) =
    go (first_fault (clause_faults S used rules lent c)) (passed_most S (used + length (rows_of_clause S c)) (suc rules) lent cs)
  where
    go : (o : Outcome) {n : ℕ} → n ≤ length cs → if_done o (suc n) (λ _. 0) ≤ suc (length cs)
    go (Ok _) h = omega arith
    go (Err why) h = omega arith

-- ---- no header counts more than 32,767 clauses

abbrev count_of : Option Counts → ℕ
count_of (Some counts) = counts.clauses
count_of None = 0

few_counted : (ws : List (List ℕ)) → count_of (counts_in ws) < beyond
unfolding counts_in
few_counted [] = omega arith
few_counted (v ∷ []) = omega arith
few_counted (v ∷ n ∷ []) =
    by_test (ltb (number_of v) beyond && ltb (number_of n) beyond)
    (λ t. rw t (ltb-true (number_of n) beyond (both_true (ltb (number_of v) beyond) (ltb (number_of n) beyond) t).1)) (λ f. rw f (omega arith))
few_counted (v ∷ n ∷ w ∷ ws) = omega arith

few_header : (line : List ℕ) → count_of (header_in line) < beyond
unfolding header_in
few_header line = by_test (starts_with header_start line) (λ t. rw t (few_counted (words (drop 6 line)))) (λ f. rw f (omega arith))

-- and a text that keeps the form has as many as its header counts
few_in : (n : ℕ) (p : Parsed) → n < beyond → length (clauses_of (counted n p)) < beyond
few_in n (good v cs) h = by_test (eqb (length cs) n) (λ t. rw t (omega (arith, eqb-true (length cs) n t))) (λ f. rw f (omega arith))
few_in n broken h = omega arith

few_body : (counts : Option Counts) (rest : List ℕ) → count_of counts < beyond → length (clauses_of (body_of counts rest)) < beyond
few_body (Some counts) rest h = few_in counts.clauses (clauses_in counts.variables [] (words rest)) h
few_body None rest h = omega arith

pub clauses_few : (text : List ℕ) → length (clauses_of (parse_text text)) < beyond
unfolding parse_text
clauses_few text = few_body (header_in (header_line text)) (body text) (few_header (header_line text))

-- the clauses that a reading tells, done or refused
module _ (table : List ℤ) (b : Board) (text : List ℕ) where
  abbrev before : ℕ
  before = passed b.symbols b.rows b.rules (rows_lent table) (clauses_of (parse_text text))

  pub clauses_told : (read_answer table b text).clauses ≡ cond (good_board table b) before 0
  unfolding read_answer
  clauses_told = go (first_fault (read_faults table b text)) refl
    where
      go : (o : Outcome) → first_fault (read_faults table b text) ≡ o → (read_answer table b text).clauses ≡ cond (good_board table b) before 0
      go (Ok _) e = rw e
      go (Err why) e = rw e

  -- so none tells more than a header can count
  pub told_few : (read_answer table b text).clauses < beyond
  told_few =
      let most = passed_most b.symbols b.rows b.rules (rows_lent table) (clauses_of (parse_text text)) in
      rw clauses_told
      (by_test (good_board table b) (λ t. rw t (omega (arith, most, clauses_few text))) (λ f. rw f (omega arith)))

-- ---- a reading that is done: the board is good, no clause is at fault, and there is room for their rows, and a number for each

module _ (table : List ℤ) (b : Board) (text : List ℕ) (done : first_fault (read_faults table b text) ≡ Ok tt) where
  pub read_good : good_board table b ≡ true
  unfolding read_faults
  read_good = not-false (good_board table b) (none_given (read_faults table b text) done 0)

  pub read_clauses : first_fault (clauses_faults b.symbols b.rows b.rules (rows_lent table) (clauses_of (parse_text text))) ≡ Ok tt
  unfolding read_faults text_faults
  read_clauses = let given = none_given (read_faults table b text) done in rw (given 0, given 1) at done

  pub read_fits : b.rows + length (rows_of_text b.symbols (parse_text text)) ≤ rows_lent table
  read_fits =
      clauses_fit b.symbols b.rows b.rules (rows_lent table) (clauses_of (parse_text text)) read_clauses (good_is table b read_good).lent

  pub read_rules : b.rules + length (clauses_of (parse_text text)) ≤ most_rules
  read_rules =
      clauses_numbered b.symbols b.rows b.rules (rows_lent table) (clauses_of (parse_text text)) read_clauses (good_is table b read_good).few
