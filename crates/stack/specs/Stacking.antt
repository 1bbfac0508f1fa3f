-- 02, Ticket 14: "a stack of premises for each furnace, both in one record".
use Rattle.std.specs.Prelude.{ℕ, suc, ◌-◌, ◌*◌, Bool, cond, not, ◌&&◌, List, leb, eqb, ℤ, pos, take, get_or, set, replicate}
use Rattle.meaning.specs.Tests.{all, member}
use Rattle.meaning.specs.Literals.{has}
use Rattle.literals.specs.Literal.{in_range, place_of}
use Rattle.candidates.specs.Given.{places_of, repeats}
use Rattle.board.specs.declared.Board.{Board}
use Rattle.stack.specs.declared.Stack.{Stack}
use Rattle.stack.specs.declared.Stacks.{Stacks}

-- the literals on a stack, the top last; the places beyond them say nothing
abbrev pub on_stack : Stack → List ℤ
on_stack s = take s.count s.literals

abbrev pub top : Stack → ℤ
top s = get_or s.literals (s.count - 1) (pos 0)

-- a literal more, and one less. Of the places beyond a stack the calls write these alone: a push its literal in the first of them, and a pop 0 in the
-- place that it leaves
abbrev pub on_top : Stack → ℤ → Stack
on_top s l = record { count = suc s.count; literals = set s.literals s.count l }

abbrev pub less_top : Stack → Stack
less_top s = record { count = s.count - 1; literals = set s.literals (s.count - 1) (pos 0) }

-- an empty stack; "a good open empties the stacks", every place included
abbrev pub empty_stack : Stack
empty_stack = record { count = 0; literals = replicate 400 (pos 0) }

abbrev pub empty_stacks : Stacks
empty_stacks = record { first = empty_stack; second = empty_stack }

-- a furnace's own stack; another number has an empty one
abbrev pub stack_of : Stacks → (furnace : ℕ) → Stack
stack_of s furnace = cond (eqb furnace 1) s.first (cond (eqb furnace 2) s.second empty_stack)

-- the record with another stack for one furnace, and the other's as it was
abbrev pub with_stack : Stacks → (furnace : ℕ) → Stack → Stacks
with_stack s furnace stack = record { first = cond (eqb furnace 1) stack s.first; second = cond (eqb furnace 2) stack s.second }

-- the literal is on the furnace's stack
unfoldable pub stacked : Stacks → (furnace : ℕ) → ℤ → Bool
stacked s furnace l = member (place_of l) (places_of (on_stack (stack_of s furnace)))

-- "more than 2S literals, a repeated one or one its furnace doesn't hold": none of these is so
unfoldable pub good_stack : (S : ℕ) → (held : List Bool) → Stack → Bool
good_stack S held s =
    leb s.count (2 * S)
    && not (repeats (places_of (on_stack s)))
    && all (λ l. in_range S l && has held (place_of l)) (on_stack s)

-- of either stack
unfoldable pub good_stacks : Board → Stacks → Bool
good_stacks b s = good_stack b.symbols b.first s.first && good_stack b.symbols b.second s.second
