-- What reading a text comes to, by what its header counts and what is found behind it.
use Rattle.meaning.proofs.Kit.{◌≡◌, ◌∙◌, sym, ap, refl, true, false, Bool, cond, List, ◌≤◌, ℕ, ◌+◌, arith, eqb, ℤ, length, drop}
use Rattle.meaning.proofs.Tests.{clash}
use Rattle.literals.specs.Row.{most_rules, rows_lent}
use Rattle.literals.specs.declared.refusal.Refusal.{Refusal}
use Rattle.literals.specs.declared.refusal.Refusal.TheVariants.{BadBoard, BadText}
use Rattle.implicates.specs.Appending.{appended}
use Rattle.board.specs.Faults.{good_board, first_fault}
use Rattle.board.specs.Rules.{with_rules}
use Rattle.board.specs.declared.Board.{Board}
use Rattle.std.specs.Prelude.{Ok, Err}
use Rattle.dimacs.specs.Words.{ends, since}
use Rattle.dimacs.specs.Form.{Parsed, good, broken, body, body_of, clauses_of, counted, header_in, header_line, is_good, parse_text, past_comments}
use Rattle.dimacs.specs.Clauses.{clauses_faults, passed}
use Rattle.dimacs.specs.Reading.{read_answer, read_faults, read_table, rows_of_text, surveyed, text_faults}
use Rattle.dimacs.specs.Gathering.{Place}
use Rattle.std.proofs.Common.{Option}
use Rattle.dimacs.specs.declared.header.Counts.{Counts}
use Rattle.dimacs.specs.declared.survey.Survey.{Survey}
use Rattle.dimacs.proofs.FirstFaults.{clauses_fit, clauses_numbered, clauses_passed}
use Rattle.dimacs.proofs.LastPass.{numbered_rows, text_done}

-- ---- what the text says, by its header, which stands from place s up to place e

pub parsed_by : (text : List ℕ) {s e : ℕ} {counts : Option Counts} → Place text s (past_comments false text) → Place text e (since ends (drop s text))
    → header_in (header_line text) ≡ counts → parse_text text ≡ body_of counts (drop e text)
unfolding parse_text
parsed_by text {s} {e} {counts} p q h =
    let rest : body text ≡ drop e text = ap (since ends) (sym p.stands) ∙ sym q.stands in
    rw (h, rest)

-- ---- what is found behind the header

pub record Found (S used rules lent : ℕ) (p : Parsed) (found : Survey) : Type 0 where
  pub outcome : first_fault (text_faults S used rules lent p) ≡ found.outcome
  pub clauses : found.clauses ≡ passed S used rules lent (clauses_of p)
  pub all_clauses : first_fault (text_faults S used rules lent p) ≡ Ok tt → found.clauses ≡ length (clauses_of p)
  pub added : first_fault (text_faults S used rules lent p) ≡ Ok tt → found.added ≡ length (rows_of_text S p)
  pub fits : first_fault (text_faults S used rules lent p) ≡ Ok tt → used ≤ lent → used + found.added ≤ lent
  pub few : first_fault (text_faults S used rules lent p) ≡ Ok tt → rules ≤ most_rules → rules + found.clauses ≤ most_rules

pub found_is : (S used rules lent : ℕ) (p : Parsed) {found : Survey} → found ≡ surveyed S used rules lent p → Found S used rules lent p found
unfolding surveyed
found_is S used rules lent p {found} is =
    let added_is : first_fault (text_faults S used rules lent p) ≡ Ok tt → found.added ≡ length (rows_of_text S p) =
    λ done. ap (λ (f : Survey). f.added) is ∙ rw done in
    let faultless : first_fault (text_faults S used rules lent p) ≡ Ok tt → first_fault (clauses_faults S used rules lent (clauses_of p)) ≡ Ok tt =
    λ done. (text_done S used rules lent p done).1 in
    let all_passed : first_fault (text_faults S used rules lent p) ≡ Ok tt → found.clauses ≡ length (clauses_of p) =
    λ done. ap (λ (f : Survey). f.clauses) is ∙ clauses_passed S used rules lent (clauses_of p) (faultless done) in
    record {
      outcome = sym (ap (λ (f : Survey). f.outcome) is);
      clauses = ap (λ (f : Survey). f.clauses) is;
      all_clauses = all_passed;
      added = added_is;
      fits = λ done h. omega (arith, added_is done, clauses_fit S used rules lent (clauses_of p) (faultless done) h);
      few = λ done h. omega (arith, all_passed done, clauses_numbered S used rules lent (clauses_of p) (faultless done) h);
    }

-- a text without a fault has as many clauses as its header counts
pub counted_done : (S used rules lent n : ℕ) (p : Parsed) → first_fault (text_faults S used rules lent (counted n p)) ≡ Ok tt → counted n p ≡ p
counted_done S used rules lent n p e = go p (text_done S used rules lent (counted n p) e).0
  where
    by : (b : Bool) (q : Parsed) → is_good (cond b q broken) ≡ true → cond b q broken ≡ q
    by true q g = refl
    by false q g = clash g refl

    go : (q : Parsed) → is_good (counted n q) ≡ true → counted n q ≡ q
    go (good v cs) g = by (eqb (length cs) n) (good v cs) g
    go broken g = clash g refl

-- ---- the answer and the table after it

module _ (table : List ℤ) (b : Board) (text : List ℕ) where
  pub read_spoilt : good_board table b ≡ false
      → (record { outcome = Err BadBoard; clauses = 0; added = 0; board = b } ≡ read_answer table b text) × (table ≡ read_table table b text)
  unfolding read_answer read_table read_faults
  read_spoilt e = rw e (refl, refl)

  module _ (fine : good_board table b ≡ true) {p : Parsed} (is : parse_text text ≡ p) where
    faults : first_fault (read_faults table b text) ≡ first_fault (text_faults b.symbols b.rows b.rules (rows_lent table) p)
    unfolding read_faults
    faults = rw (fine, is)

    pub read_refused : (why : Refusal) {clauses : ℕ} → first_fault (text_faults b.symbols b.rows b.rules (rows_lent table) p) ≡ Err why
        → clauses ≡ passed b.symbols b.rows b.rules (rows_lent table) (clauses_of p)
        → (record { outcome = Err why; clauses = clauses; added = 0; board = b } ≡ read_answer table b text) × (table ≡ read_table table b text)
    unfolding read_answer read_table
    read_refused why e c = rw (faults, e, c, fine, is) (refl, refl)

    pub read_done : {clauses added : ℕ} → first_fault (text_faults b.symbols b.rows b.rules (rows_lent table) p) ≡ Ok tt
        → clauses ≡ length (clauses_of p) → added ≡ length (rows_of_text b.symbols p)
        → (record { outcome = Ok tt; clauses = clauses; added = added; board = with_rules b added clauses } ≡ read_answer table b text)
        × (appended table b.rows (numbered_rows b.symbols b.rules p) ≡ read_table table b text)
    unfolding read_answer read_table
    read_done e c a =
        let faultless = (text_done b.symbols b.rows b.rules (rows_lent table) p e).1 in
        let all_passed = clauses_passed b.symbols b.rows b.rules (rows_lent table) (clauses_of p) faultless in
        rw (faults, e, c, a, fine, is, all_passed) (refl, refl)

  -- a text whose header breaks the form
  pub read_broken : good_board table b ≡ true → parse_text text ≡ broken
      → (record { outcome = Err BadText; clauses = 0; added = 0; board = b } ≡ read_answer table b text) × (table ≡ read_table table b text)
  unfolding text_faults passed
  read_broken fine is = read_refused fine is BadText refl refl
