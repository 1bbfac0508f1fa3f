-- What explain tells and shows: a rank from 1 to 2S, and the supporting row's literals or, where refused, the empty part at the table's front.
use Rattle.meaning.proofs.Kit.{◌≡◌, ◌∙◌, sym, refl, ⊎_elim, inl, inr, ◌≢◌, true, false, not, ◌||◌, List, ◌≤◌, ℕ, ◌<◌, ◌-◌, ◌+◌, ◌*◌, arith, ℤ, length}
use Rattle.meaning.proofs.Kit.{not-false}
use Rattle.meaning.specs.Tests.{none}
use Rattle.meaning.specs.Literals.{has}
use Rattle.meaning.proofs.Tests.{clash}
use Rattle.meaning.proofs.Ranks.{rank_of_is}
use Rattle.meaning.proofs.Supports.{support_of_is}
use Rattle.literals.specs.Literal.{in_range, place_of}
use Rattle.literals.specs.Row.{width, numbers_at, decode}
use Rattle.literals.specs.declared.refusal.Refusal.{Refusal}
use Rattle.literals.proofs.Decoding.{length_rows}
use Rattle.board.specs.Faults.{good_board, first_fault}
use Rattle.board.specs.Furnaces.{held_by}
use Rattle.board.specs.Ranking.{rows_on, derived_on, rank_on, support_on}
use Rattle.board.specs.Asking.{explain_faults, explain_numbers, explain_part}
use Rattle.board.specs.declared.Board.{Board}
use Rattle.board.specs.Faults.{Outcome}
use Rattle.std.specs.Prelude.{Ok, Err}
use Rattle.board.proofs.Goodness.{Good, good_is}
use Rattle.board.proofs.Answered.{none_given}
use Rattle.literals.proofs.Arguments.{place_fits}
use Rattle.board.proofs.Ranked.{hidden}

module _ (table : List ℤ) (b : Board) (furnace : ℕ) (l : ℤ) where
  -- the numbers have the call's outcome
  outcome_is : (explain_numbers table b furnace l).outcome ≡ first_fault (explain_faults table b furnace l)
  unfolding explain_numbers
  outcome_is = go (first_fault (explain_faults table b furnace l)) refl
    where
      go : (o : Outcome) → first_fault (explain_faults table b furnace l) ≡ o
          → (explain_numbers table b furnace l).outcome ≡ first_fault (explain_faults table b furnace l)
      go (Ok _) e = rw e
      go (Err why) e = rw e

  pub nothing_shown : {why : Refusal} → (explain_numbers table b furnace l).outcome ≡ Err why
      → explain_part table b furnace l ≡ record { start = 0; stop = 0 }
  unfolding explain_part
  nothing_shown e = rw (sym outcome_is ∙ e)

  module _ (e : (explain_numbers table b furnace l).outcome ≡ Ok tt) where
    done : first_fault (explain_faults table b furnace l) ≡ Ok tt
    done = sym outcome_is ∙ e

    row_is : (explain_numbers table b furnace l).row ≡ support_on table b furnace (place_of l)
    unfolding explain_numbers
    row_is = rw done

    -- every test has passed
    tests : Good table b × (in_range b.symbols l ≡ true)
        × ((not (has (derived_on table b furnace) (place_of l)) || has (held_by b furnace) (place_of l)) ≡ false)
    unfolding explain_faults
    tests =
        let given = none_given (explain_faults table b furnace l) done in
        (good_is table b (not-false (good_board table b) (given 0)), not-false (in_range b.symbols l) (given 2), given 3)

    low : place_of l < 2 * b.symbols
    low = place_fits b.symbols l tests.1

    small : 2 * b.symbols < none
    small = omega (arith, tests.0.sound.symbols)

    -- the literal has a rank, from 1 to 2S
    rank_range : (1 ≤ rank_on table b furnace (place_of l)) × (rank_on table b furnace (place_of l) ≤ 2 * b.symbols)
    rank_range =
        let hides = hidden (2 * b.symbols) (rows_on table b) (held_by b furnace) small (place_of l) low in
        let some : rank_on table b furnace (place_of l) ≢ 0 = λ e. clash (hides (inl e)) tests.2 in
        let is = rank_of_is (2 * b.symbols) (rows_on table b) (held_by b furnace) (place_of l) small in
        (omega arith, ⊎_elim (λ f. f.0) (λ f. clash (hides (inr f.0)) tests.2) is)

    pub rank_told : (1 ≤ (explain_numbers table b furnace l).rank) × ((explain_numbers table b furnace l).rank ≤ 2 * b.symbols)
    unfolding explain_numbers
    rank_told = rw done rank_range

    -- the row is one of those in use
    pub support_used : support_on table b furnace (place_of l) < b.rows
    support_used =
        let p = place_of l in
        let range = rank_range in
        let used = length_rows b.rows table in
        let few = tests.0.sound.rows in
        let given = support_of_is (2 * b.symbols) (rows_on table b) (held_by b furnace) (rank_on table b furnace p - 1) p low small in
        omega (arith, used, (given (omega (arith, used, few)) (omega arith) (omega (arith, small))).0)

    pub row_used : ((explain_numbers table b furnace l).row < b.rows) × (b.rows ≤ 2048) × (width * b.rows ≤ length table)
    row_used = (omega (arith, row_is, support_used), tests.0.sound.rows, tests.0.sound.room)

    pub row_shown : let r = (explain_numbers table b furnace l).row in
        explain_part table b furnace l ≡ record { start = width * r; stop = width * r + length (decode (numbers_at table r)) }
    unfolding explain_part explain_numbers
    row_shown = rw done
