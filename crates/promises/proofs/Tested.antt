-- What is known once a call that adds rules is done, one or those of an entry or a text: that each of its tests was passed, and what it left.
use Rattle.meaning.proofs.Kit.{◌≡◌, sym, refl, subst, true, List, [], ◌∷◌, ◌++◌, In, append-nil, in_of_map, ◌≤◌, ℕ, ◌+◌, suc, arith, leb, length}
use Rattle.meaning.proofs.Kit.{drop, length-map, not-false, leb-true}
use Rattle.meaning.specs.Tests.{all}
use Rattle.meaning.specs.Formulae.{Formula, inside, symbols_of, Rule, rule_of}
use Rattle.meaning.specs.Clauses.{rows_of, all_rows, satisfiable}
use Rattle.meaning.specs.SecondWay.{accepted, rules_of}
use Rattle.positions.specs.Positions.{Entry, formulae_of, suits}
use Rattle.meaning.proofs.Tests.{all_at, clash}
use Rattle.meaning.proofs.Rows.{all_rows_in}
use Rattle.meaning.proofs.SoundRows.{SoundRow, rows_sound_lem}
use Rattle.meaning.proofs.Forced.{accepted_words}
use Rattle.literals.specs.Row.{most_literals, most_rules, rows_lent, Ruled, of_rule, of_rules}
use Rattle.literals.proofs.RuledRows.{length_of_rule, length_of_rules}
use Rattle.formula.specs.Parse.{Parsed, good, bad, whole_of}
use Rattle.formula.specs.Answers.{is_good, formula_of}
use Rattle.formula.proofs.Widening.{whole_read}
use Rattle.implicates.specs.Appending.{fits, appended}
use Rattle.implicates.proofs.Rules.{fits_facts}
use Rattle.board.specs.Faults.{good_board, first_fault}
use Rattle.board.specs.Rules.{rule_faults, with_rules, ruled, ruled_table}
use Rattle.std.specs.Prelude.{Ok}
use Rattle.board.proofs.Goodness.{Good, good_is}
use Rattle.board.proofs.Answered.{none_given}
use Rattle.positions.specs.Entering.{entry_faults, entered, entered_table}
use Rattle.positions.proofs.Answers.{Passed, entry_passed}
use Rattle.dimacs.specs.Form.{clauses_of, parse_text}
use Rattle.dimacs.specs.Clauses.{one_of}
use Rattle.dimacs.specs.Reading.{formulae_in, read_faults, read_answer, read_table}
use Rattle.dimacs.proofs.FirstFaults.{clauses_accepted}
use Rattle.dimacs.proofs.ClauseCount.{read_clauses, read_fits, read_rules, read_good}
use Rattle.chains.specs.Form.{whole_text}
use Rattle.text.specs.Reading.{bytes_in, read_in}
use Rattle.text.specs.Adding.{ruled_text}
use Rattle.text.proofs.Back.{says_same}
use Rattle.promises.specs.Calls.{adds, enters, reads, adds_text, World, front, faults, answer, outcome, after, formula_in}
use Rattle.promises.proofs.RuleTexts.{done_same}
use Rattle.promises.proofs.Refusals.{cases}
use Rattle.positions.proofs.PairRules.{entry_accepted}

-- the rows of rules, with the numbers that they get on a world's board
abbrev pub ruled_for : World → List Formula → List Ruled
ruled_for w fs = of_rules (suc w.board.rules) (rules_of w.board.symbols fs)

-- a call that was lent `lent` numbers of the table and left the world `next` has added the rules of these formulae, and told so many rows
pub record Added (w next : World) (lent : ℕ) (fs : List Formula) (count : ℕ) : Type 0 where
  pub good : Good (front w lent) w.board
  pub accepted : all (accepted w.board.symbols) fs ≡ true
  pub fits : w.board.rows + length (ruled_for w fs) ≤ rows_lent (front w lent)
  pub counted : w.board.rules + length fs ≤ most_rules
  pub told : count ≡ length (ruled_for w fs)
  pub board : next.board ≡ with_rules w.board (length (ruled_for w fs)) (length fs)
  pub table : next.table ≡ appended (front w lent) w.board.rows (ruled_for w fs) ++ drop lent w.table
  pub stacks : next.stacks ≡ w.stacks

-- the rows of accepted rules are sound, and none has more literals than a row has places for
pub sound_rows : (S : ℕ) (fs : List Formula) → all (accepted S) fs ≡ true → (row : List ℕ) → In row (all_rows (rules_of S fs))
    → SoundRow S most_literals row
sound_rows S fs ok row m =
    let rule = all_rows_in (rules_of S fs) row m in
    let f = in_of_map (rule_of S) fs rule.1 in
    let words = accepted_words S f.0 (all_at (accepted S) ok f.1) in
    let sound = rows_sound_lem S f.0 row words.2 (subst (λ (r : Rule). In row (rows_of r)) (sym f.2) rule.2) in
    record {
      some = sound.some;
      most = omega (arith, sound.most, leb-true (length (symbols_of S f.0)) 8 words.1);
      below = sound.below;
      rising = sound.rising;
    }

-- ---- a rule

-- bytes that are a good formula are one of the symbols 1 to S
formula_inside : (S : ℕ) (bytes : List ℕ) → is_good (whole_of S bytes) ≡ true → inside S (formula_in S bytes) ≡ true
formula_inside S bytes e = go (whole_of S bytes) refl e
  where
    go : (p : Parsed) → whole_of S bytes ≡ p → is_good p ≡ true → inside S (formula_of p) ≡ true
    go (good f used) q e = (whole_read S bytes f used q).known
    go (bad why at) q e = clash e refl

pub rule_added : (w : World) (lent : ℕ) (bytes : List ℕ) → outcome w (adds lent bytes) ≡ Ok tt
    → Added w (after w (adds lent bytes)) lent (formula_in w.board.symbols bytes ∷ []) (ruled (front w lent) w.board bytes).added
unfolding after faults rule_faults ruled ruled_table
rule_added w lent bytes e =
    let part = front w lent in
    let S = w.board.symbols in
    let f = formula_in S bytes in
    let done : first_fault (rule_faults part w.board bytes) ≡ Ok tt = cases w (adds lent bytes) e in
    let given = none_given (rule_faults part w.board bytes) done in
    let rows = rows_of (rule_of S f) in
    let one = append-nil (of_rule (suc w.board.rules) rows) in
    let long : length rows ≡ length (of_rule (suc w.board.rules) rows) = sym (length_of_rule (suc w.board.rules) rows) in
    let good = good_is part w.board (not-false (good_board part w.board) (given 0)) in
    let enough = fits_facts w.board.rows w.board.rules (rows_lent part) rows
    (not-false (fits w.board.rows w.board.rules (rows_lent part) rows) (given 4)) in
    record {
      good = good;
      accepted =
          rw (formula_inside S bytes (not-false (is_good (whole_of S bytes)) (given 1)), not-false (leb (length (symbols_of S f)) 8) (given 2))
          (rw (not-false (satisfiable (rule_of S f)) (given 3)));
      fits = rw (one, ← long) enough.0;
      counted = omega (arith, enough.1, good.few);
      told = rw (done, one, ← long);
      board = rw (done, one, ← long);
      table = rw (done, one);
      stacks = refl;
    }

-- in text: the bytes, read, are the formula that the text says
formula_said : (S : ℕ) (text : List ℕ) → S ≤ 200 → is_good (read_in S text) ≡ true → formula_in S (bytes_in text) ≡ formula_of (whole_text text)
formula_said S text few e = go (read_in S text) refl e
  where
    go : (p : Parsed) → read_in S text ≡ p → is_good p ≡ true → formula_of p ≡ formula_of (whole_text text)
    go (good f used) q e = sym (says_same S text f used few q)
    go (bad why at) q e = clash e refl

pub rule_text_added : (w : World) (lent : ℕ) (text : List ℕ) → outcome w (adds_text lent text) ≡ Ok tt
    → Added w (after w (adds_text lent text)) lent (formula_of (whole_text text) ∷ []) (ruled_text (front w lent) w.board text).added
unfolding answer outcome faults rule_faults
rule_text_added w lent text e =
    let bytes = bytes_in text in
    let S = w.board.symbols in
    let same = done_same w lent text e in
    let done : outcome w (adds lent bytes) ≡ Ok tt = rw (same.0, outcome) at e in
    let given = none_given (rule_faults (front w lent) w.board bytes) (cases w (adds lent bytes) done) in
    let added = rule_added w lent bytes done in
    let said = formula_said S text added.good.sound.symbols (not-false (is_good (whole_of S bytes)) (given 1)) in
    let told = (ruled_text (front w lent) w.board text).added in
    subst (λ (f : Formula). Added w (after w (adds_text lent text)) lent (f ∷ []) told) said (rw (same.0, same.1) added)

-- ---- a position variable or a pair table

module _ (w : World) (lent : ℕ) (e : Entry) (d : outcome w (enters lent e) ≡ Ok tt) where
  entry_done : first_fault (entry_faults (front w lent) w.board e) ≡ Ok tt
  unfolding faults
  entry_done = cases w (enters lent e) d

  passed : Passed (front w lent) w.board e
  passed = entry_passed (front w lent) w.board e entry_done

  -- it is of the board's symbols, and has the form that is asked for
  pub entry_suits : suits w.board.symbols e ≡ true
  entry_suits = passed.suits

  pub entry_added : Added w (after w (enters lent e)) lent (formulae_of e) (entered (front w lent) w.board e).added
  unfolding after entered entered_table
  entry_added =
      let S = w.board.symbols in
      let long = length_of_rules (suc w.board.rules) (rules_of S (formulae_of e)) in
      record {
        good = passed.good;
        accepted = entry_accepted S e entry_suits;
        fits = rw long passed.rows;
        counted = passed.rules;
        told = rw (entry_done, long);
        board = rw (entry_done, long);
        table = rw entry_done;
        stacks = refl;
      }

-- ---- a text

module _ (w : World) (lent : ℕ) (text : List ℕ) (e : outcome w (reads lent text) ≡ Ok tt) where
  pub text_done : first_fault (read_faults (front w lent) w.board text) ≡ Ok tt
  unfolding faults
  text_done = cases w (reads lent text) e

  pub text_added : Added w (after w (reads lent text)) lent (formulae_in (parse_text text)) (read_answer (front w lent) w.board text).added
  unfolding after read_answer read_table
  text_added =
      let part = front w lent in
      let clauses = read_clauses part w.board text text_done in
      let long = length_of_rules (suc w.board.rules) (rules_of w.board.symbols (formulae_in (parse_text text))) in
      record {
        good = good_is part w.board (read_good part w.board text text_done);
        accepted = clauses_accepted w.board.symbols w.board.rows w.board.rules (rows_lent part) (clauses_of (parse_text text)) clauses;
        fits = rw long (read_fits part w.board text text_done);
        counted = rw (length-map (clauses_of (parse_text text)) one_of) (read_rules part w.board text text_done);
        told = rw (text_done, long);
        board = rw (text_done, long, length-map (clauses_of (parse_text text)) one_of);
        table = rw text_done;
        stacks = refl;
      }
