-- The rows of a sound table, written as text and read onto a new board, are these rows again, each as a rule of its own.
use Rattle.meaning.proofs.Kit.{◌≡◌, ◌∙◌, sym, ap, refl, ap₂, true, List, ◌++◌, map, ◌≤◌, ℕ, ◌<◌, ◌+◌, suc, ◌*◌, zero, arith, leb, ℤ, length, le-leb}
use Rattle.meaning.specs.Tests.{tabulate}
use Rattle.meaning.specs.SecondWay.{rules_of}
use Rattle.meaning.proofs.Tests.{and_intro}
use Rattle.meaning.proofs.Tables.{length_tabulate}
use Rattle.literals.specs.Row.{Ruled, decode, most_literals, most_rules, numbers_at, of_rule, of_rules, row_sound, rows_lent, width}
use Rattle.literals.proofs.Counting.{count_few}
use Rattle.literals.proofs.RuledRows.{length_of_rules}
use Rattle.implicates.specs.Appending.{appended}
use Rattle.board.specs.Faults.{good_board, first_fault}
use Rattle.board.specs.Changes.{empty_board}
use Rattle.board.specs.Rules.{with_rules}
use Rattle.board.specs.declared.Board.{Board}
use Rattle.std.specs.Prelude.{Ok}
use Rattle.board.proofs.Goodness.{Good, empty_good, good_is}
use Rattle.board.proofs.Answered.{first_append}
use Rattle.dimacs.specs.Form.{good, parse_text}
use Rattle.dimacs.specs.Clauses.{clause_faults, clauses_faults, one_of, passed}
use Rattle.dimacs.specs.Reading.{formulae_in, read_answer, read_faults, read_table, rows_of_text, text_faults}
use Rattle.dimacs.specs.Writing.{clauses_at, literals_of, text_on}
use Rattle.dimacs.specs.Promises.{SameRows}
use Rattle.dimacs.proofs.FirstFaults.{clauses_passed}
use Rattle.dimacs.proofs.LastPass.{numbered_rows}
use Rattle.dimacs.proofs.OwnRows.{row_faultless, row_rows}
use Rattle.dimacs.proofs.SoundTables.{table_back}
use Rattle.dimacs.proofs.TextLines.{count_clauses}

-- ---- rows as clauses, one after the other

-- k rows that are sound and of at most eight literals
abbrev AllSound : (S k : ℕ) → (ℕ → List ℤ) → Type 0
AllSound S k f = (r : ℕ) → r < k → (row_sound S (f r) ≡ true) × (length (decode (f r)) ≤ most_literals)

-- each is the row of its own rule, where the numbers go on by one
rows_again : (S k : ℕ) (f : ℕ → List ℤ) (number : ℕ → ℕ) → AllSound S k f → ((r : ℕ) → number (suc r) ≡ suc (number r))
    → of_rules (number 0) (rules_of S (map one_of (tabulate k (λ r. literals_of (f r)))))
    ≡ tabulate k (λ r. record { rule = number r; row = decode (f r) })
rows_again S zero f number s more = refl
rows_again S (suc k) f number s more =
    let later = rows_again S k (λ r. f (suc r)) (λ r. number (suc r)) (λ r h. s (suc r) (omega arith)) (λ r. more (suc r)) in
    ap₂ (λ (own : List (List ℕ)) (rest : List Ruled). of_rule (number 0) own ++ rest) (row_rows S (f 0) (s 0 (omega arith)).0)
    (ap (λ (n : ℕ). of_rules n (rules_of S (map one_of (tabulate k (λ r. literals_of (f (suc r))))))) (sym (more 0)) ∙ later)

rows_faultless : (S lent k used rules : ℕ) (f : ℕ → List ℤ) → 1 ≤ S → AllSound S k f → used + k ≤ lent → rules + k ≤ most_rules
    → first_fault (clauses_faults S used rules lent (tabulate k (λ r. literals_of (f r)))) ≡ Ok tt
unfolding clauses_faults
rows_faultless S lent zero used rules f one s h n = refl
rows_faultless S lent (suc k) used rules f one s h n =
    let first = s 0 (omega arith) in
    let later : AllSound S k (λ r. f (suc r)) = λ r j. s (suc r) (omega arith) in
    let rest = rows_faultless S lent k (used + 1) (suc rules) (λ r. f (suc r)) one later (omega arith) (omega (arith, n)) in
    let free = row_faultless S (f 0) first.0 used rules lent one first.1 (omega arith) (λ e. omega (arith, e, n)) in
    first_append (clause_faults S used rules lent (literals_of (f 0))) _ ∙ rw (free, row_rows S (f 0) first.0) rest

-- ---- the whole

module _ (table : List ℤ) (b : Board) (new : List ℤ) (fine : good_board table b ≡ true) (fits : b.rows ≤ rows_lent new) where
  abbrev S : ℕ
  S = b.symbols

  abbrev used : ℕ
  used = b.rows

  abbrev text : List ℕ
  text = text_on table b

  abbrev clauses : List (List ℤ)
  clauses = clauses_at used table

  known : Good table b
  known = good_is table b fine

  all_sound : AllSound S used (numbers_at table)
  unfolding numbers_at
  all_sound r h = (known.sound.sound r h, count_few table (width * r))

  -- what the text says
  text_is : parse_text text ≡ good S clauses
  unfolding text_on
  text_is = table_back S used table known.sound

  -- row r, from 0, has the number r + 1
  abbrev rows : List Ruled
  rows = tabulate used (λ i. record { rule = suc i; row = decode (numbers_at table i) })

  rows_are : numbered_rows S 0 (good S clauses) ≡ rows
  unfolding clauses_at
  rows_are = rows_again S used (numbers_at table) suc all_sound (λ r. refl)

  added_is : length (rows_of_text S (good S clauses)) ≡ used
  added_is = sym (length_of_rules 1 (rules_of S (formulae_in (good S clauses)))) ∙ ap length rows_are ∙ length_tabulate used _

  -- reading it is done, and passes all of its clauses
  faultless : first_fault (clauses_faults S 0 0 (rows_lent new) clauses) ≡ Ok tt
  unfolding clauses_at
  faultless = rows_faultless S (rows_lent new) used 0 0 (numbers_at table) known.some all_sound (omega arith) (omega (arith, known.sound.rows))

  new_good : good_board new (empty_board S) ≡ true
  new_good = empty_good new S (and_intro (leb 1 S) (leb S 200) (le-leb 1 S known.some) (le-leb S 200 known.sound.symbols))

  done : first_fault (read_faults new (empty_board S) text) ≡ Ok tt
  unfolding read_faults text_faults
  done = rw (new_good, text_is, faultless)

  passed_all : passed S 0 0 (rows_lent new) clauses ≡ used
  passed_all = clauses_passed S 0 0 (rows_lent new) clauses faultless ∙ count_clauses table used

  -- so these are the answer and the table after it
  answer : read_answer new (empty_board S) text ≡ record { outcome = Ok tt; clauses = used; added = used; board = with_rules (empty_board S) used used }
  unfolding read_answer
  answer = rw (done, new_good, text_is, added_is, passed_all, count_clauses table used)

  after : read_table new (empty_board S) text ≡ appended new 0 rows
  unfolding read_table
  after = rw (done, text_is, rows_are)

pub same_rows : SameRows
same_rows table b new fine fits = (answer table b new fine fits, after table b new fine fits)
