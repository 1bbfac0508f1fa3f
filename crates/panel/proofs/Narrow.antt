-- Every call hands back a board whose numbers fit C's sixteen bits, if it is given one.
use Rattle.meaning.proofs.Kit.{◌≡◌, refl, true, false, Bool, cond, List, ◌≤◌, ℕ, ◌<◌, ◌+◌, arith, ℤ, length, not-false}
use Rattle.positions.specs.Positions.{Entry}
use Rattle.literals.specs.Row.{most_rules, rows_lent}
use Rattle.literals.specs.declared.refusal.Refusal.TheVariants.{BadText}
use Rattle.board.specs.Furnaces.{with_held}
use Rattle.implicates.specs.Appending.{fits}
use Rattle.implicates.proofs.Rules.{fits_facts}
use Rattle.board.specs.Faults.{first_fault, good_board}
use Rattle.board.specs.Changes.{changed, open_faults, opened, with_flag, hold_faults, hold_answer, flag_changed}
use Rattle.board.specs.Rules.{breaks_at, rule_faults, rows_of_bytes, ruled}
use Rattle.board.specs.declared.Board.{Board}
use Rattle.board.specs.declared.rules.Addition.{Addition}
use Rattle.board.specs.Faults.{Outcome}
use Rattle.std.specs.Prelude.{Ok, Err}
use Rattle.board.proofs.Answered.{none_given}
use Rattle.board.proofs.Goodness.{good_is}
use Rattle.stack.specs.Stacking.{top, stack_of}
use Rattle.stack.specs.Steps.{opened_with, withdraw_faults_with, withdrawn_with, push_faults, pushed, pop_faults, popped}
use Rattle.stack.specs.declared.Stacks.{Stacks}
use Rattle.positions.specs.Entering.{entry_faults, entered}
use Rattle.positions.proofs.Answers.{entry_passed}
use Rattle.dimacs.specs.Reading.{read_answer, read_faults}
use Rattle.dimacs.proofs.ClauseCount.{read_fits, read_rules, told_few}
use Rattle.chains.specs.Form.{whole_text}
use Rattle.text.specs.Reading.{bytes_in}
use Rattle.text.specs.Adding.{text_refused, ruled_text}
use Rattle.panel.specs.Crossing.{Narrow}

narrow_changed : (o : Outcome) (given next : Board) → Narrow given → Narrow next → Narrow (changed o given next).board
narrow_changed (Ok _) given next n m = m
narrow_changed (Err why) given next n m = n

pub narrow_opened : (S : ℕ) (s : Stacks) → S < 65536 → Narrow (opened_with S s).change.board
unfolding opened_with opened
narrow_opened S s h =
    narrow_changed (first_fault (open_faults S)) _ _ (record { symbols = omega arith; rows = omega arith; rules = omega arith })
    (record { symbols = h; rows = omega arith; rules = omega arith })

-- the board and the rows that an addition counts
abbrev Few : Addition → Type 0
Few a = Narrow a.board × (a.added < 65536)

module _ (table : List ℤ) (b : Board) (n : Narrow b) where
  narrow_flagged : (o : Outcome) (furnace : ℕ) (l : ℤ) (flag : Bool) → Narrow (changed o b (with_flag b furnace l flag)).board
  unfolding with_held
  narrow_flagged o furnace l flag = narrow_changed o b _ n (record { symbols = n.symbols; rows = n.rows; rules = n.rules })

  pub narrow_held : (furnace : ℕ) (l : ℤ) → Narrow (hold_answer table b furnace l).board
  unfolding flag_changed
  narrow_held furnace l = narrow_flagged (first_fault (hold_faults table b furnace l)) furnace l true

  -- whatever the record
  module _ (s : Stacks) (furnace : ℕ) where
    pub narrow_withdrawn : (l : ℤ) → Narrow (withdrawn_with table b s furnace l).change.board
    unfolding withdrawn_with
    narrow_withdrawn l = narrow_flagged (first_fault (withdraw_faults_with table b s furnace l)) furnace l false

    pub narrow_pushed : (l : ℤ) → Narrow (pushed table b s furnace l).change.board
    unfolding pushed
    narrow_pushed l = narrow_flagged (first_fault (push_faults table b s furnace l)) furnace l true

    pub narrow_popped : Narrow (popped table b s furnace).change.board
    unfolding popped
    narrow_popped = narrow_flagged (first_fault (pop_faults table b s furnace)) furnace (top (stack_of s furnace)) false

  -- "rows in use plus its prime implicates" are at most the rows lent, and the rules counted at most 32,767
  few_rows : (bytes : List ℕ) → first_fault (rule_faults table b bytes) ≡ Ok tt
      → (b.rows + length (rows_of_bytes b.symbols bytes) ≤ 2048) × (b.rules ≤ most_rules)
  unfolding rule_faults
  few_rows bytes e =
      let given = none_given (rule_faults table b bytes) e in
      let rows = rows_of_bytes b.symbols bytes in
      let enough = fits_facts b.rows b.rules (rows_lent table) rows (not-false (fits b.rows b.rules (rows_lent table) rows) (given 4)) in
      (omega (arith, enough.0), (good_is table b (not-false (good_board table b) (given 0))).few)

  pub narrow_ruled : (bytes : List ℕ) → Few (ruled table b bytes)
  unfolding ruled
  narrow_ruled bytes = go (first_fault (rule_faults table b bytes)) refl
    where
      go : (o : Outcome) → first_fault (rule_faults table b bytes) ≡ o → Few (ruled table b bytes)
      go (Ok _) e =
          let few = few_rows bytes e in
          rw e (record { symbols = n.symbols; rows = omega (arith, few.0); rules = omega (arith, few.1) }, omega (arith, few.0))
      go (Err why) e = rw e (n, omega arith)

  -- a rule from text is one from its bytes, or adds nothing
  pub narrow_ruled_text : (text : List ℕ) → Few (ruled_text table b text)
  unfolding ruled_text
  narrow_ruled_text text = go (text_refused table b text)
    where
      go : (refused : Bool)
          → Few
          (cond refused (record { outcome = Err BadText; place = breaks_at (whole_text text); added = 0; board = b })
          (ruled table b (bytes_in text)))
      go true = (n, omega arith)
      go false = narrow_ruled (bytes_in text)

  -- and so are the rows of a text's clauses
  read_rows : (text : List ℕ) → Narrow (read_answer table b text).board × ((read_answer table b text).added < 65536)
  unfolding read_answer
  read_rows text = go (first_fault (read_faults table b text)) refl
    where
      go : (o : Outcome) → first_fault (read_faults table b text) ≡ o
          → Narrow (read_answer table b text).board × ((read_answer table b text).added < 65536)
      go (Ok _) e =
          let fits = read_fits table b text e in
          rw e (record { symbols = n.symbols; rows = omega arith; rules = omega (arith, read_rules table b text e) }, omega arith)
      go (Err why) e = rw e (n, omega arith)

  -- its clauses are not more than a header can count
  pub narrow_read : (text : List ℕ) → let r = read_answer table b text in Narrow r.board × (r.clauses < 65536) × (r.added < 65536)
  narrow_read text = ((read_rows text).0, omega (arith, told_few table b text), (read_rows text).1)

  -- the rows and the rules of an entry fit wholly
  pub narrow_entered : (e : Entry) → Few (entered table b e)
  unfolding entered
  narrow_entered e = go (first_fault (entry_faults table b e)) refl
    where
      go : (o : Outcome) → first_fault (entry_faults table b e) ≡ o → Few (entered table b e)
      go (Ok _) d =
          let p = entry_passed table b e d in
          rw d (record { symbols = n.symbols; rows = omega (arith, p.rows); rules = omega (arith, p.rules) }, omega (arith, p.rows))
      go (Err why) d = rw d (n, omega arith)
