-- What a step answers, by what the board's own call answers.
use Rattle.meaning.proofs.Kit.{◌≡◌, refl, true, false, Bool, not, true≢false, bool_beq, List, [], ◌∷◌, ℕ, ℤ, not-false}
use Rattle.meaning.specs.Literals.{has}
use Rattle.literals.specs.Literal.{in_range, place_of}
use Rattle.literals.specs.declared.refusal.Refusal.{Refusal}
use Rattle.literals.specs.declared.refusal.Refusal.TheVariants.{StackedPremise}
use Rattle.board.specs.Furnaces.{is_furnace, held_by}
use Rattle.board.specs.Faults.{good_board, Fault}
use Rattle.board.specs.Changes.{flag_faults, flag_changed, withdraw_faults, withdraw_answer}
use Rattle.board.specs.declared.Board.{Board}
use Rattle.std.specs.Prelude.{Ok, Err}
use Rattle.board.proofs.Answered.{first_append, none_given}
use Rattle.stack.specs.Stacking.{stacked, good_stacks}
use Rattle.stack.specs.Steps.{withdraw_faults_with, withdrawn_with}
use Rattle.stack.specs.declared.Stacks.{Stacks}
use Rattle.stack.specs.declared.Step.{Step}

-- a change of a flag that is done has passed every test
pub record Flagged (table : List ℤ) (b : Board) (furnace : ℕ) (l : ℤ) (flag : Bool) : Type 0 where
  pub is_good_lem : good_board table b ≡ true
  pub is_furnace : is_furnace furnace ≡ true
  pub in_range_lem : in_range b.symbols l ≡ true
  pub was : has (held_by b furnace) (place_of l) ≡ not flag

unlike : (a b : Bool) → bool_beq a b ≡ false → a ≡ not b
unlike true true e = absurd (true≢false e)
unlike true false e = refl
unlike false true e = refl
unlike false false e = absurd (true≢false e)

pub flag_done : (table : List ℤ) (b : Board) (furnace : ℕ) (l : ℤ) (flag : Bool) (already : Refusal)
    → (flag_changed table b furnace l flag already).outcome ≡ Ok tt → Flagged table b furnace l flag
unfolding flag_changed flag_faults
flag_done table b furnace l flag already e =
    let none = none_given (flag_faults table b furnace l flag already) e in
    record {
      is_good_lem = not-false (good_board table b) (none 0);
      is_furnace = not-false (is_furnace furnace) (none 1);
      in_range_lem = not-false (in_range b.symbols l) (none 2);
      was = unlike (has (held_by b furnace) (place_of l)) flag (none 3);
    }

-- a step that is refused
abbrev pub stays : Board → Stacks → Refusal → Step
stays b s why = record { change = record { outcome = Err why; board = b }; stacks = s }

module _ (table : List ℤ) (b : Board) (s : Stacks) (furnace : ℕ) (l : ℤ) (good : good_stacks b s ≡ true) where
  -- the one fault that is withdraw's own here
  abbrev own : List Fault
  own = record { given = stacked s furnace l; refusal = StackedPremise } ∷ []

  pub withdraw_refused : {why : Refusal} → (withdraw_answer table b furnace l).outcome ≡ Err why → withdrawn_with table b s furnace l ≡ stays b s why
  unfolding withdrawn_with withdraw_faults_with flag_changed
  withdraw_refused e = rw (good, first_append (withdraw_faults table b furnace l) own, e)

  module _ (e : (withdraw_answer table b furnace l).outcome ≡ Ok tt) where
    pub withdraw_stacked : stacked s furnace l ≡ true → withdrawn_with table b s furnace l ≡ stays b s StackedPremise
    unfolding withdrawn_with withdraw_faults_with flag_changed
    withdraw_stacked on = rw (good, first_append (withdraw_faults table b furnace l) own, e, on)

    pub withdraw_done : stacked s furnace l ≡ false → withdrawn_with table b s furnace l
        ≡ record { change = withdraw_answer table b furnace l; stacks = s }
    unfolding withdrawn_with withdraw_faults_with flag_changed
    withdraw_done on = rw (good, first_append (withdraw_faults table b furnace l) own, e, on)
