-- What entering answers, and the table after it, where it is refused and where it is done; and what is known once all its tests are passed.
use Rattle.meaning.proofs.Kit.{◌≡◌, ◌∙◌, true, false, ◌&&◌, not, List, [], ◌∷◌, ◌≤◌, ℕ, ◌+◌, suc, leb, ℤ, length, not-false, leb-true}
use Rattle.meaning.specs.SecondWay.{rules_of}
use Rattle.positions.specs.Positions.{Entry, formulae_of, symbols_fit, well_formed, possible, suits}
use Rattle.meaning.proofs.Tests.{and_intro, both_true}
use Rattle.literals.specs.Row.{most_rules, rows_lent, of_rules}
use Rattle.literals.specs.declared.refusal.Refusal.{Refusal}
use Rattle.literals.specs.declared.refusal.Refusal.TheVariants.{BadBoard, TableFull}
use Rattle.implicates.specs.Appending.{appended}
use Rattle.board.specs.Faults.{good_board, Fault, first_fault}
use Rattle.board.specs.Rules.{no_place, with_rules}
use Rattle.board.specs.declared.Board.{Board}
use Rattle.std.specs.Prelude.{Ok, Err}
use Rattle.board.specs.declared.rules.Addition.{Addition}
use Rattle.board.proofs.Answered.{first_append, none_given}
use Rattle.board.proofs.Goodness.{Good, good_is}
use Rattle.positions.specs.Entering.{rows_of_entry, own_faults, fits_wholly, entry_faults, entered, entered_table}

-- an entry that passes its own tests suits the board
tests_passed : (S : ℕ) (e : Entry) → not (symbols_fit S e) ≡ false → not (well_formed e) ≡ false → not (possible e) ≡ false → suits S e ≡ true
tests_passed S e a b c =
    and_intro (symbols_fit S e && well_formed e) (possible e)
    (and_intro (symbols_fit S e) (well_formed e) (not-false (symbols_fit S e) a) (not-false (well_formed e) b)) (not-false (possible e) c)

pub own_passed : (S : ℕ) (e : Entry) → first_fault (own_faults S e) ≡ Ok tt → suits S e ≡ true
own_passed S e f = let given = none_given (own_faults S e) f in tests_passed S e (given 0) (given 1) (given 2)

-- what is known of an entry that was done
pub record Passed (table : List ℤ) (b : Board) (e : Entry) : Type 0 where
  pub good : Good table b
  pub suits : suits b.symbols e ≡ true
  pub rows : b.rows + length (rows_of_entry b.symbols e) ≤ rows_lent table
  pub rules : b.rules + length (formulae_of e) ≤ most_rules

pub entry_passed : (table : List ℤ) (b : Board) (e : Entry) → first_fault (entry_faults table b e) ≡ Ok tt → Passed table b e
unfolding entry_faults
entry_passed table b e f =
    let given = none_given (entry_faults table b e) f in
    let S = b.symbols in
    let lent = rows_lent table in
    let rows = b.rows + length (rows_of_entry S e) in
    let rules = b.rules + length (formulae_of e) in
    let room = both_true (leb rows lent) (leb rules most_rules) (not-false (fits_wholly S b.rows b.rules lent e) (given 4)) in
    record {
      good = good_is table b (not-false (good_board table b) (given 0));
      suits = tests_passed S e (given 1) (given 2) (given 3);
      rows = leb-true rows lent room.0;
      rules = leb-true rules most_rules room.1;
    }

module _ (table : List ℤ) (b : Board) (e : Entry) where
  -- the answer and the table after it
  pub record Told (answer : Addition) (after : List ℤ) : Type 0 where
    pub answer_is : answer ≡ entered table b e
    pub table_is : after ≡ entered_table table b e

  told_refused : (why : Refusal) → first_fault (entry_faults table b e) ≡ Err why
      → Told (record { outcome = Err why; place = no_place; added = 0; board = b }) table
  unfolding entered entered_table
  told_refused why f = record { answer_is = rw f; table_is = rw f }

  pub told_spoilt : good_board table b ≡ false → Told (record { outcome = Err BadBoard; place = no_place; added = 0; board = b }) table
  unfolding entry_faults
  told_spoilt g = told_refused BadBoard (rw g)

  module _ (g : good_board table b ≡ true) where
    -- 2, 19 and 8
    pub told_own : (why : Refusal) → first_fault (own_faults b.symbols e) ≡ Err why
        → Told (record { outcome = Err why; place = no_place; added = 0; board = b }) table
    unfolding entry_faults
    told_own why f =
        let own = own_faults b.symbols e in
        let full : List Fault = record { given = not (fits_wholly b.symbols b.rows b.rules (rows_lent table) e); refusal = TableFull } ∷ [] in
        told_refused why (rw g (first_append own full ∙ rw f))

    -- once these are passed
    module _ (s : suits b.symbols e ≡ true) where
      pub told_full : fits_wholly b.symbols b.rows b.rules (rows_lent table) e ≡ false
          → Told (record { outcome = Err TableFull; place = no_place; added = 0; board = b }) table
      unfolding entry_faults
      told_full f =
          let a = both_true (symbols_fit b.symbols e && well_formed e) (possible e) s in
          let c = both_true (symbols_fit b.symbols e) (well_formed e) a.0 in
          told_refused TableFull (rw (g, c.0, c.1, a.1, f))

      pub told_done : fits_wholly b.symbols b.rows b.rules (rows_lent table) e ≡ true
          → let added = length (rows_of_entry b.symbols e) in
          Told (record { outcome = Ok tt; place = no_place; added = added; board = with_rules b added (length (formulae_of e)) })
          (appended table b.rows (of_rules (suc b.rules) (rules_of b.symbols (formulae_of e))))
      unfolding entry_faults entered entered_table
      told_done f =
          let a = both_true (symbols_fit b.symbols e && well_formed e) (possible e) s in
          let c = both_true (symbols_fit b.symbols e) (well_formed e) a.0 in
          let done : first_fault (entry_faults table b e) ≡ Ok tt = rw (g, c.0, c.1, a.1, f) in
          record { answer_is = rw done; table_is = rw done }
