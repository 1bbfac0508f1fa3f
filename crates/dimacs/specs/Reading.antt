-- Reading a text onto a board: "Refusals: 15 .. ahead of all others but 1; then, for the first clause at fault, 2, 7, 8, 9". "A refused reading
-- changes nothing."
use Rattle.std.specs.Prelude.{ℕ, suc, not, cond, List, ◌∷◌, map, ℤ, length}
use Rattle.meaning.specs.Formulae.{Formula}
use Rattle.meaning.specs.Clauses.{all_rows}
use Rattle.meaning.specs.SecondWay.{rules_of}
use Rattle.literals.specs.Row.{rows_lent, of_rules}
use Rattle.literals.specs.declared.refusal.Refusal.TheVariants.{BadBoard, BadText}
use Rattle.implicates.specs.Appending.{appended}
use Rattle.board.specs.Faults.{good_board, Fault, first_fault, if_done}
use Rattle.board.specs.Rules.{with_rules}
use Rattle.board.specs.declared.Board.{Board}
use Rattle.dimacs.specs.Form.{Parsed, is_good, clauses_of, parse_text}
use Rattle.dimacs.specs.Clauses.{one_of, clauses_faults, passed}
use Rattle.dimacs.specs.declared.survey.Survey.{Survey}
use Rattle.dimacs.specs.declared.reading.Reading.{Reading}

-- the formulae of the rules that a text adds, one a clause, so that each clause counts; and their rows
abbrev pub formulae_in : Parsed → List Formula
formulae_in parsed = map one_of (clauses_of parsed)

abbrev pub rows_of_text : (S : ℕ) → Parsed → List (List ℕ)
rows_of_text S parsed = all_rows (rules_of S (formulae_in parsed))

-- what is tested of the text: all of it for its form, and then clause by clause
unfoldable pub text_faults : (S used rules lent : ℕ) → Parsed → List Fault
text_faults S used rules lent parsed =
    record { given = not (is_good parsed); refusal = BadText } ∷ clauses_faults S used rules lent (clauses_of parsed)

unfoldable pub read_faults : List ℤ → Board → (text : List ℕ) → List Fault
read_faults table b text =
    record { given = not (good_board table b); refusal = BadBoard } ∷ text_faults b.symbols b.rows b.rules (rows_lent table) (parse_text text)

-- what is found in the text before anything is written: what the reading comes to, how many clauses come before the first at fault, and how
-- many rows there are to be appended
unfoldable pub surveyed : (S used rules lent : ℕ) → Parsed → Survey
surveyed S used rules lent parsed =
    let outcome = first_fault (text_faults S used rules lent parsed) in
    record {
      outcome = outcome;
      clauses = passed S used rules lent (clauses_of parsed);
      added = if_done outcome (length (rows_of_text S parsed)) (λ _. 0);
    }

-- the answer, and the table after it: the clauses are the next rules that the board counts
unfoldable pub read_answer : List ℤ → Board → (text : List ℕ) → Reading
read_answer table b text =
    let outcome = first_fault (read_faults table b text) in
    let clauses = cond (good_board table b) (passed b.symbols b.rows b.rules (rows_lent table) (clauses_of (parse_text text))) 0 in
    let added = length (rows_of_text b.symbols (parse_text text)) in
    if_done outcome (record { outcome = outcome; clauses = clauses; added = added; board = with_rules b added (length (clauses_of (parse_text text))) })
    (λ _. record { outcome = outcome; clauses = clauses; added = 0; board = b })

unfoldable pub read_table : List ℤ → Board → (text : List ℕ) → List ℤ
read_table table b text =
    if_done (first_fault (read_faults table b text))
    (appended table b.rows (of_rules (suc b.rules) (rules_of b.symbols (formulae_in (parse_text text))))) (λ _. table)
