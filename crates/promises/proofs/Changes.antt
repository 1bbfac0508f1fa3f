-- Demand 2, the calls that change premises, and open: a good open leaves an empty board and empty stacks, a good hold, withdraw, push or pop changes
-- the flag of one literal, push and pop the stack of its furnace, and nothing else.
use Rattle.meaning.proofs.Kit.{◌≡◌, refl, ⊎_elim, ◌≢◌, true, false, Bool, cond, not, true≢false, bool_beq, map, ◌≤◌, ℕ, ◌<◌, suc, ◌*◌, zero, arith, ℤ}
use Rattle.meaning.proofs.Kit.{get_or, eqb, set, not-false, eqb-true, eqb-false}
use Rattle.meaning.specs.Literals.{has}
use Rattle.meaning.proofs.Tests.{true_or_false}
use Rattle.literals.specs.Literal.{in_range, place_of}
use Rattle.literals.proofs.Arguments.{place_fits}
use Rattle.board.specs.Furnaces.{is_furnace, held_by}
use Rattle.board.specs.Faults.{Fault, good_board}
use Rattle.board.specs.Changes.{opened, with_flag, flag_faults, flag_changed, hold_faults}
use Rattle.std.specs.Prelude.{Ok}
use Rattle.board.specs.declared.Board.{Board}
use Rattle.board.proofs.TwoSets.{held_own, held_other}
use Rattle.board.proofs.Answered.{none_given}
use Rattle.board.proofs.Goodness.{good_is}
use Rattle.stack.specs.Stacking.{top, on_top, less_top, stack_of, with_stack, stacked, good_stacks}
use Rattle.stack.specs.Steps.{opened_with, withdraw_faults_with, withdrawn_with, push_faults, pushed, pop_faults, popped}
use Rattle.stack.specs.declared.Stack.{Stack}
use Rattle.stack.specs.declared.Stacks.{Stacks}
use Rattle.stack.proofs.GoodStacks.{stack_of_good, top_low}
use Rattle.stack.proofs.Own.{Own, own_more, own_less, own_pushed, own_popped}
use Rattle.stack.proofs.Kept.{with_same, stack_own, stack_other}
use Rattle.promises.specs.Calls.{opens, holds, withdraws, pushes, pops, World, front, faults, outcome, after}
use Rattle.promises.specs.Demands.{OpenLeaves, HoldPuts, WithdrawTakes, PushPuts, PopTakes}
use Rattle.promises.proofs.Refusals.{cases}

pub open_leaves : OpenLeaves
unfolding after faults opened_with opened
open_leaves w S e = rw (cases w (opens S) e)

pub hold_puts : HoldPuts
unfolding after faults flag_changed
hold_puts w lent furnace l e = rw (cases w (holds lent furnace l) e)

pub withdraw_takes : WithdrawTakes
unfolding after faults withdrawn_with
withdraw_takes w lent furnace l e = rw (cases w (withdraws lent furnace l) e)

pub push_puts : PushPuts
unfolding after faults pushed
push_puts w lent furnace l e = rw (cases w (pushes lent furnace l) e)

pub pop_takes : PopTakes
unfolding after faults popped
pop_takes w lent furnace e = rw (cases w (pops lent furnace) e)

-- what a furnace holds, and its stack, once those of a furnace, itself or the other, are changed
module _ (furnace other : ℕ) (named : is_furnace furnace ≡ true) where
  pub flag_at : (b : Board) (l : ℤ) (flag : Bool)
      → held_by (with_flag b furnace l flag) other ≡ cond (eqb furnace other) (set (held_by b other) (place_of l) flag) (held_by b other)
  flag_at b l flag =
      ⊎_elim
      (λ (e : eqb furnace other ≡ true). rw e (rw (← eqb-true furnace other e) (held_own b furnace _ named)))
      (λ (e : eqb furnace other ≡ false). rw e (held_other b furnace _ other (eqb-false furnace other e)))
      (true_or_false (eqb furnace other))

  pub stack_at : (s : Stacks) (t : Stack) → stack_of (with_stack s furnace t) other ≡ cond (eqb furnace other) t (stack_of s other)
  stack_at s t =
      ⊎_elim
      (λ (e : eqb furnace other ≡ true). rw e (rw (← eqb-true furnace other e) (stack_own s furnace t named)))
      (λ (e : eqb furnace other ≡ false). rw e (stack_other s furnace t other (eqb-false furnace other e)))
      (true_or_false (eqb furnace other))

-- what is known once a call that changes one premise is done: it named a furnace, the literal's place is one of a good board's, it left the world
-- `next`, with this stack for the furnace, and the furnace's premises and stack are as the calls leave them if they were
pub record Flagged (w next : World) (furnace : ℕ) (l : ℤ) (flag : Bool) (stack : Stack) : Type 0 where
  pub named : is_furnace furnace ≡ true
  pub high : w.board.symbols ≤ 200
  pub low : place_of l < 2 * w.board.symbols
  pub next_is : next ≡ record { board = with_flag w.board furnace l flag; table = w.table; stacks = with_stack w.stacks furnace stack }
  pub own : Own w.board.symbols (held_by w.board furnace) (stack_of w.stacks furnace)
      → Own w.board.symbols (set (held_by w.board furnace) (place_of l) flag) stack

module _ (w : World) (lent furnace : ℕ) where
  abbrev stack : Stack
  stack = stack_of w.stacks furnace

  -- by the tests that were passed
  flagged : {next : World} {l : ℤ} {flag : Bool} {t : Stack} → not (good_board (front w lent) w.board) ≡ false
      → not (is_furnace furnace) ≡ false → place_of l < 2 * w.board.symbols
      → next ≡ record { board = with_flag w.board furnace l flag; table = w.table; stacks = with_stack w.stacks furnace t }
      → (w.board.symbols ≤ 200 → Own w.board.symbols (held_by w.board furnace) stack
      → Own w.board.symbols (set (held_by w.board furnace) (place_of l) flag) t)
      → Flagged w next furnace l flag t
  flagged good is low next own =
      let high = (good_is (front w lent) w.board (not-false (good_board (front w lent) w.board) good)).sound.symbols in
      record { named = not-false (is_furnace furnace) is; high = high; low = low; next_is = next; own = own high }

  in_place : (l : ℤ) → not (in_range w.board.symbols l) ≡ false → place_of l < 2 * w.board.symbols
  in_place l range = place_fits w.board.symbols l (not-false (in_range w.board.symbols l) range)

  module _ (l : ℤ) where
    pub hold_flagged : outcome w (holds lent furnace l) ≡ Ok tt
        → Flagged w (after w (holds lent furnace l)) furnace l true (stack_of w.stacks furnace)
    unfolding faults flag_faults
    hold_flagged e =
        let given = none_given (hold_faults (front w lent) w.board furnace l) (cases w (holds lent furnace l) e) in
        flagged (given 0) (given 1) (in_place l (given 2)) (rw (with_same w.stacks furnace) (hold_puts w lent furnace l e))
        (λ high o. own_more o (place_of l))

    module _ (e : outcome w (withdraws lent furnace l) ≡ Ok tt) where
      -- the literal was not stacked
      pub withdraw_free : stacked w.stacks furnace l ≡ false
      unfolding faults withdraw_faults_with flag_faults
      withdraw_free = none_given (withdraw_faults_with (front w lent) w.board w.stacks furnace l) (cases w (withdraws lent furnace l) e) 5

      pub withdraw_flagged : Flagged w (after w (withdraws lent furnace l)) furnace l false (stack_of w.stacks furnace)
      unfolding faults withdraw_faults_with flag_faults stacked
      withdraw_flagged =
          let given = none_given (withdraw_faults_with (front w lent) w.board w.stacks furnace l) (cases w (withdraws lent furnace l) e) in
          flagged (given 1) (given 2) (in_place l (given 3)) (rw (with_same w.stacks furnace) (withdraw_takes w lent furnace l e))
          (λ high o. own_less o (place_of l) withdraw_free)

    module _ (e : outcome w (pushes lent furnace l) ≡ Ok tt) where
      -- or not held
      pub push_free : (in_range w.board.symbols l ≡ true) × (has (held_by w.board furnace) (place_of l) ≡ false)
      unfolding faults push_faults flag_faults
      push_free =
          let given = none_given (push_faults (front w lent) w.board w.stacks furnace l) (cases w (pushes lent furnace l) e) in
          (not-false (in_range w.board.symbols l) (given 3), not_so (has (held_by w.board furnace) (place_of l)) (given 4))
        where
          not_so : (b : Bool) → bool_beq b true ≡ false → b ≡ false
          not_so true e = absurd (true≢false e)
          not_so false e = refl

      pub push_flagged : Flagged w (after w (pushes lent furnace l)) furnace l true (on_top (stack_of w.stacks furnace) l)
      unfolding faults push_faults flag_faults
      push_flagged =
          let given = none_given (push_faults (front w lent) w.board w.stacks furnace l) (cases w (pushes lent furnace l) e) in
          flagged (given 1) (given 2) (in_place l (given 3)) (push_puts w lent furnace l e)
          (λ high o. own_pushed _ _ _ o high l push_free.0 push_free.1)

  module _ (e : outcome w (pops lent furnace) ≡ Ok tt) where
    -- what a pop has tested
    given : (i : ℕ) → get_or (map (λ (f : Fault). f.given) (pop_faults (front w lent) w.board w.stacks furnace)) i false ≡ false
    unfolding faults
    given = none_given (pop_faults (front w lent) w.board w.stacks furnace) (cases w (pops lent furnace) e)

    pop_some : 1 ≤ stack.count
    unfolding pop_faults
    pop_some = some stack.count (eqb-false stack.count 0 (given 3))
      where
        some : (n : ℕ) → n ≢ 0 → 1 ≤ n
        some zero apart = absurd (apart refl)
        some (suc n) apart = omega arith

    pub pop_flagged : let stack = stack_of w.stacks furnace in
        Flagged w (after w (pops lent furnace)) furnace (top stack) false (less_top stack)
    unfolding pop_faults
    pop_flagged =
        let good = good_is (front w lent) w.board (not-false (good_board (front w lent) w.board) (given 1)) in
        let its-good = stack_of_good w.board w.stacks furnace (not-false (good_stacks w.board w.stacks) (given 0))
        (not-false (is_furnace furnace) (given 2)) in
        flagged (given 1) (given 2) (top_low w.board.symbols (held_by w.board furnace) stack its-good good.some pop_some)
        (pop_takes w lent furnace e) (λ high o. own_popped _ _ _ o high pop_some)
