-- 02, Ticket 14, on small boards: nested tries with a rule added in between, the refusals of the calls that are lent the record in their order, both
-- furnaces in turn, and records that are spoilt. Stated as in `GroundBoards`.
use Rattle.meaning.proofs.Kit.{◌≡◌, refl, true, List, [], ◌∷◌, ◌++◌, map, ℕ, ℤ, pos, negsuc, replicate}
use Rattle.literals.specs.declared.refusal.Refusal.{Refusal}
use Rattle.literals.specs.declared.refusal.Refusal.TheVariants.{BadBoard, BadLiteral, AlreadyHeld, NotHeld, BadFurnace, EmptyStack, StackedPremise}
use Rattle.board.specs.Changes.{empty_board, with_flag}
use Rattle.std.specs.Prelude.{Result, Ok, Err}
use Rattle.board.specs.declared.asking.Standing.{Standing}
use Rattle.board.specs.declared.asking.Standing.TheVariants.{Conflict, Stands, RuledOut, Open}
use Rattle.spelling.proofs.Ascii.{ascii}
use Rattle.stack.specs.Stacking.{on_stack, empty_stack, empty_stacks}
use Rattle.stack.specs.declared.Stack.{Stack}
use Rattle.promises.specs.Calls.{Call, opens, holds, withdraws, pushes, pops, asks, reads, World, Answer, of_change, of_ask, answer, after, run}
use Rattle.promises.proofs.Boards.{lent, fresh, FreshHold}
use Rattle.promises.proofs.Computing.{the_definitions}

-- ---- the boards and the calls

-- 1 implies 2, and 2 and 3 lean on each other
abbrev circle : List Call → List Call
circle calls = opens 4 ∷ reads lent (ascii "p cnf 4 3\n-1 2 0\n-2 3 0\n2 -3 0\n") ∷ calls

-- 3 implies 4
abbrev fourth : Call
fourth = reads lent (ascii "p cnf 4 1\n-3 4 0\n")

abbrev push : (furnace : ℕ) → ℤ → Call
push furnace l = pushes lent furnace l

abbrev pop : (furnace : ℕ) → Call
pop furnace = pops lent furnace

abbrev withdraw : (furnace : ℕ) → ℤ → Call
withdraw furnace l = withdraws lent furnace l

abbrev stand : (furnace : ℕ) → ℤ → Standing → Call × Answer
stand furnace l how = (asks lent furnace l, of_ask (Ok how))

abbrev good : Call → Call × Answer
good c = (c, of_change (Ok tt))

abbrev refused : Call → Refusal → Call × Answer
refused c why = (c, of_change (Err why))

-- furnace 1 holds 1, and tries 2 and then −3
abbrev tried : List Call
tried = circle (holds lent 1 (pos 1) ∷ push 1 (pos 2) ∷ push 1 (negsuc 2) ∷ [])

-- ---- calls that are made, and what others then answer

abbrev boards : List (List Call × List (Call × Answer))
boards =
    -- 1 is tried, a rule is added, and −4 is tried on top of it, which contradicts all the others;
    (
      circle (push 1 (pos 1) ∷ fourth ∷ push 1 (negsuc 3) ∷ []),
      stand 1 (pos 1) Conflict ∷ stand 1 (pos 3) Conflict ∷ stand 1 (pos 4) Conflict ∷ stand 2 (pos 2) Open ∷ [],
    )
    -- taken back, 4 stands by the rule that was added;
    ∷ (
      circle (push 1 (pos 1) ∷ fourth ∷ push 1 (negsuc 3) ∷ pop 1 ∷ []),
      stand 1 (pos 3) Stands ∷ stand 1 (pos 4) Stands ∷ stand 1 (negsuc 3) RuledOut ∷ good (push 1 (negsuc 3)) ∷ [],
    )
    -- and once 1 is taken back nothing stands, not the two that lean on each other either; the rule is there still
    ∷ (
      circle (push 1 (pos 1) ∷ fourth ∷ push 1 (negsuc 3) ∷ pop 1 ∷ pop 1 ∷ []),
      stand 1 (pos 1) Open ∷ stand 1 (pos 2) Open ∷ stand 1 (pos 3) Open ∷ stand 1 (pos 4) Open ∷ refused (pop 1) EmptyStack ∷ [],
    )
    ∷ (circle (push 1 (pos 1) ∷ fourth ∷ push 1 (negsuc 3) ∷ pop 1 ∷ pop 1 ∷ push 1 (pos 2) ∷ []), stand 1 (pos 4) Stands ∷ stand 1 (pos 1) Open ∷ [])
    -- "push as hold": what is held already, by hold or by push, is refused with 10; "21 for withdrawing a stacked premise, after 11"; what hold put
    -- is withdrawn as ever
    ∷ (
      tried,
      refused (push 1 (pos 1)) AlreadyHeld
          ∷ refused (push 1 (pos 2)) AlreadyHeld
          ∷ refused (holds lent 1 (negsuc 2)) AlreadyHeld
          ∷ refused (withdraw 1 (pos 2)) StackedPremise
          ∷ refused (withdraw 1 (negsuc 2)) StackedPremise
          ∷ refused (withdraw 1 (pos 3)) NotHeld
          ∷ good (withdraw 1 (pos 1))
          -- the other furnace holds none of it, and has nothing stacked
          ∷ refused (withdraw 2 (pos 2)) NotHeld
          ∷ refused (pop 2) EmptyStack
          ∷ good (push 2 (pos 2))
          -- the orders: all cases at once, the board's since one row is lent, and then one fewer each time
          ∷ refused (pushes 9 3 (pos 9)) BadBoard
          ∷ refused (push 3 (pos 9)) BadFurnace
          ∷ refused (push 1 (pos 9)) BadLiteral
          ∷ refused (push 1 (pos 0)) BadLiteral
          ∷ refused (pops 9 3) BadBoard
          ∷ refused (pop 3) BadFurnace
          ∷ refused (pop 0) BadFurnace
          ∷ refused (withdraws 9 3 (pos 9)) BadBoard
          ∷ refused (withdraw 3 (pos 9)) BadFurnace
          ∷ refused (withdraw 1 (negsuc 4)) BadLiteral
          ∷ [],
    )
    -- pops in order: −3 first, then 2; each is then withdrawn, and may be pushed anew or is not held
    ∷ (
      tried ++ (pop 1 ∷ []),
      refused (withdraw 1 (negsuc 2)) NotHeld ∷ refused (withdraw 1 (pos 2)) StackedPremise ∷ good (push 1 (negsuc 2)) ∷ good (pop 1) ∷ [],
    )
    ∷ (
      tried ++ (pop 1 ∷ pop 1 ∷ []),
      refused (withdraw 1 (pos 2)) NotHeld ∷ good (withdraw 1 (pos 1)) ∷ stand 1 (pos 3) Stands ∷ refused (pop 1) EmptyStack ∷ [],
    )
    -- both furnaces in turn
    ∷ (
      circle (push 1 (pos 1) ∷ push 2 (negsuc 1) ∷ push 1 (pos 4) ∷ push 2 (pos 4) ∷ pop 1 ∷ []),
      stand 1 (pos 3) Stands ∷ stand 1 (pos 4) Open ∷ stand 2 (pos 3) RuledOut ∷ stand 2 (pos 4) Stands ∷ refused
          (withdraw 2 (pos 4)) StackedPremise ∷ [],
    )
    ∷ (
      circle (push 1 (pos 1) ∷ push 2 (negsuc 1) ∷ push 1 (pos 4) ∷ push 2 (pos 4) ∷ pop 1 ∷ pop 2 ∷ pop 2 ∷ []),
      stand 1 (pos 3) Stands ∷ stand 2 (pos 3) Open ∷ stand 2 (pos 4) Open ∷ refused (pop 2) EmptyStack ∷ good (pop 1) ∷ [],
    )
    -- "a good open empties the stacks"
    ∷ (tried ++ (push 2 (pos 4) ∷ opens 4 ∷ []), refused (pop 1) EmptyStack ∷ refused (pop 2) EmptyStack ∷ good (push 1 (pos 2)) ∷ [])
    ∷ []

stack_boards_hold : FreshHold answer boards
unfolding the_definitions
stack_boards_hold = refl

-- ---- the record

-- the stacks of both furnaces after calls
abbrev left : List Call → List ℤ × List ℤ
left calls = let s = (run fresh calls).stacks in (on_stack s.first, on_stack s.second)

abbrev records : List (List Call × (List ℤ × List ℤ))
records =
    (tried, (pos 2 ∷ negsuc 2 ∷ [], []))
    ∷ (tried ++ (push 2 (pos 4) ∷ pop 1 ∷ []), (pos 2 ∷ [], pos 4 ∷ []))
    -- what is refused changes nothing, nor does a withdraw that is good
    ∷ (tried ++ (push 1 (pos 2) ∷ withdraw 1 (pos 2) ∷ withdraw 1 (pos 1) ∷ pop 2 ∷ opens 0 ∷ pop 1 ∷ []), (pos 2 ∷ negsuc 2 ∷ [], []))
    ∷ (tried ++ (push 2 (pos 4) ∷ opens 4 ∷ []), ([], []))
    ∷ []

records_hold : map (λ r. left r.0) records ≡ map (λ r. r.1) records
unfolding the_definitions
records_hold = refl

-- after a push and its pop, and after an open, the record is what it was, every place included
as_it_was : ((run fresh (opens 4 ∷ push 1 (pos 1) ∷ push 2 (negsuc 3) ∷ pop 2 ∷ pop 1 ∷ [])).stacks ≡ empty_stacks)
    × ((run fresh (tried ++ (opens 1 ∷ []))).stacks ≡ empty_stacks)
unfolding the_definitions
as_it_was = (refl, refl)

-- a refused open leaves the stacks, but no board that they fit
no_board : map (answer (run fresh (tried ++ (opens 0 ∷ [])))) (pop 1 ∷ push 1 (pos 1) ∷ withdraw 1 (pos 1) ∷ [])
    ≡ of_change (Err BadBoard) ∷ of_change (Err BadBoard) ∷ of_change (Err BadBoard) ∷ []
unfolding the_definitions
no_board = refl

-- ---- a record that is spoilt

-- a stack with these literals and so many counted, and a world of two symbols in which furnace 1 holds 1 and −2
abbrev stack : (count : ℕ) → List ℤ → Stack
stack count on = record { count = count; literals = on ++ replicate 394 (pos 0) }

abbrev spoilt : (first second : Stack) → World
spoilt first second =
    record {
      board = with_flag (with_flag (empty_board 2) 1 (pos 1) true) 1 (negsuc 1) true;
      table = fresh.table;
      stacks = record { first = first; second = second };
    }

-- 1 for push, pop and withdraw, whichever furnace is named
abbrev told : World → List Answer
told w = map (answer w) (push 1 (pos 2) ∷ push 2 (pos 1) ∷ pop 1 ∷ withdraw 1 (pos 1) ∷ [])

abbrev bad : List Answer
bad = let no = of_change (Err BadBoard) in no ∷ no ∷ no ∷ no ∷ []

spoilt_told : map told
    ( -- more than 2S literals, a repeated one, 0, one beyond S, one that is not held, and one that only the other furnace holds
    spoilt (stack 5 (pos 1 ∷ negsuc 1 ∷ [])) empty_stack
    ∷ spoilt (stack 65535 (pos 1 ∷ [])) empty_stack
    ∷ spoilt (stack 2 (pos 1 ∷ pos 1 ∷ [])) empty_stack
    ∷ spoilt (stack 2 (pos 1 ∷ pos 0 ∷ [])) empty_stack
    ∷ spoilt (stack 1 (pos 3 ∷ [])) empty_stack
    ∷ spoilt (stack 1 (negsuc 0 ∷ [])) empty_stack
    ∷ spoilt empty_stack (stack 1 (pos 1 ∷ []))
    -- what stands beyond the count says nothing
    ∷ spoilt (stack 1 (negsuc 1 ∷ pos 9 ∷ negsuc 1 ∷ [])) empty_stack
    ∷ [])
    ≡ bad ∷ bad ∷ bad ∷ bad ∷ bad ∷ bad ∷ bad
    ∷ (of_change (Ok tt) ∷ of_change (Ok tt) ∷ of_change (Ok tt) ∷ of_change (Ok tt) ∷ [])
    ∷ []
unfolding the_definitions
spoilt_told = refl

-- "1 also, but not at open"
opened_anew : (answer (spoilt (stack 65535 []) empty_stack) (opens 2) ≡ of_change (Ok tt))
    × ((after (spoilt (stack 65535 []) empty_stack) (opens 2)).stacks ≡ empty_stacks)
unfolding the_definitions
opened_anew = (refl, refl)
