-- 02, Ticket 14: "push holds a literal and puts it on top, pop withdraws the top. .. Withdraw and open are lent it too". A refused call leaves the
-- board and the record as they were, but for the board of a refused open, as 01 has it.
use Rattle.std.specs.Prelude.{ℕ, true, false, not, List, [], ◌∷◌, ◌++◌, eqb, ℤ}
use Rattle.literals.specs.declared.refusal.Refusal.TheVariants.{BadBoard, BadFurnace, EmptyStack, StackedPremise}
use Rattle.board.specs.Furnaces.{is_furnace}
use Rattle.board.specs.Faults.{good_board, Fault, first_fault, if_done}
use Rattle.board.specs.Changes.{changed, opened, with_flag, hold_faults, withdraw_faults}
use Rattle.board.specs.declared.Board.{Board}
use Rattle.board.specs.Faults.{Outcome}
use Rattle.stack.specs.Stacking.{top, on_top, less_top, empty_stacks, stack_of, with_stack, stacked, good_stacks}
use Rattle.stack.specs.declared.Stacks.{Stacks}
use Rattle.stack.specs.declared.Step.{Step}

-- what a call that is lent the record answers: board and record so changed, or as given
abbrev pub stepped : Outcome → (b : Board) → (s : Stacks) → (next : Board) → (stacks : Stacks) → Step
stepped outcome b s next stacks = record { change = changed outcome b next; stacks = if_done outcome stacks (λ _. s) }

-- "1 also, but not at open, when either stack has more than 2S literals, a repeated one or one its furnace doesn't hold"
abbrev pub stack_fault : Board → Stacks → Fault
stack_fault b s = record { given = not (good_stacks b s); refusal = BadBoard }

-- "push as hold"
unfoldable pub push_faults : List ℤ → Board → Stacks → (furnace : ℕ) → ℤ → List Fault
push_faults table b s furnace l = stack_fault b s ∷ hold_faults table b furnace l

unfoldable pub pushed : List ℤ → Board → Stacks → (furnace : ℕ) → ℤ → Step
pushed table b s furnace l =
    stepped (first_fault (push_faults table b s furnace l)) b s (with_flag b furnace l true) (with_stack s furnace (on_top (stack_of s furnace) l))

-- "20, after 16, for pop on an empty stack"
unfoldable pub pop_faults : List ℤ → Board → Stacks → (furnace : ℕ) → List Fault
pop_faults table b s furnace =
    stack_fault b s
    ∷ record { given = not (good_board table b); refusal = BadBoard }
    ∷ record { given = not (is_furnace furnace); refusal = BadFurnace }
    ∷ record { given = eqb (stack_of s furnace).count 0; refusal = EmptyStack }
    ∷ []

unfoldable pub popped : List ℤ → Board → Stacks → (furnace : ℕ) → Step
popped table b s furnace =
    stepped (first_fault (pop_faults table b s furnace)) b s (with_flag b furnace (top (stack_of s furnace)) false)
    (with_stack s furnace (less_top (stack_of s furnace)))

-- "A stacked premise can't be withdrawn except by pop": "21 for withdrawing a stacked premise, after 11"
unfoldable pub withdraw_faults_with : List ℤ → Board → Stacks → (furnace : ℕ) → ℤ → List Fault
withdraw_faults_with table b s furnace l =
    stack_fault b s ∷ (withdraw_faults table b furnace l ++ record { given = stacked s furnace l; refusal = StackedPremise } ∷ [])

unfoldable pub withdrawn_with : List ℤ → Board → Stacks → (furnace : ℕ) → ℤ → Step
withdrawn_with table b s furnace l = stepped (first_fault (withdraw_faults_with table b s furnace l)) b s (with_flag b furnace l false) s

-- "a good open empties the stacks"
unfoldable pub opened_with : ℕ → Stacks → Step
opened_with S s = record { change = opened S; stacks = if_done (opened S).outcome empty_stacks (λ _. s) }
