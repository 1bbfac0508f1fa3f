-- Its tests are the faults of `pop_faults`, in their order.
use Rattle.meaning.proofs.Kit.{◌≡◌, ◌∙◌, sym, ap, true, ◌≤◌, ℕ, ℤ, arith, to_z-of_z, rules, ne_eqb, eq-eqb}
use Rattle.literals.specs.Literal.{in_range, place_of}
use Rattle.literals.proofs.Signed.{back, small_abs}
use Rattle.literals.proofs.Arguments.{range_facts, range_more, place_fits}
use Rattle.board.specs.declared.Board.{Board}
use Rattle.stack.specs.Stacking.{top, stack_of}
use Rattle.stack.specs.Steps.{pop_faults, popped}
use Rattle.stack.specs.declared.Stack.{Stack}
use Rattle.stack.specs.declared.Stacks.{Stacks}
use Rattle.stack.proofs.GoodStacks.{top_held}
use Rattle.stack.proofs.Known.{Known, known}
use Rattle.stack.proofs.steps.pop.Goals as goal

-- where there is a literal on its stack: the top is a literal of the board, and what is placed is the top
module _ {b : Board} {s : Stacks} {furnace : ℕ} (k : Known b s furnace) {stack : Stack} (same : stack ≡ stack_of s furnace) (some : 1 ≤ stack.count) where
  within : in_range 200 (top stack) ≡ true
  within = rw same (range_more _ (top (stack_of s furnace)) (top_held _ _ (stack_of s furnace) k.good (rw (← same) some) k.places).0 200 k.symbols)

  read : {l : ℤ} → l ≡ top stack → back l ≡ top stack
  read e = ap back e ∙ to_z-of_z (small_abs (top stack) (omega (arith, (range_facts 200 (top stack) within).1)))

pub returns-then-not-good_stacks : goal.returns-then-not-good_stacks
unfolding popped pop_faults
returns-then-not-good_stacks c = rw (sym c.good_stacks.ensures ∙ c.if-not-good_stacks.true) c.refused.ensures

pub returns-then-not-good : goal.returns-then-not-good
unfolding popped pop_faults
returns-then-not-good c =
    rw (sym c.good_stacks.ensures ∙ c.if-not-good_stacks.false, sym c.good.ensures ∙ c.if-not-good.true) c.refused-then-not-good.ensures

pub returns-then-not-is_furnace : goal.returns-then-not-is_furnace
unfolding popped pop_faults
returns-then-not-is_furnace c =
    rw (
      sym c.good_stacks.ensures ∙ c.if-not-good_stacks.false,
      sym c.good.ensures ∙ c.if-not-good.false,
      sym c.is_furnace.ensures ∙ c.if-not-is_furnace.true,
    ) c.refused-then-not-is_furnace.ensures

pub returns-then-stack-eq0 : goal.returns-then-stack-eq0
unfolding popped pop_faults
returns-then-stack-eq0 c =
    rw (
      sym c.good_stacks.ensures ∙ c.if-not-good_stacks.false,
      sym c.good.ensures ∙ c.if-not-good.false,
      sym c.is_furnace.ensures ∙ c.if-not-is_furnace.false,
      ← c.stack_of-stack.ensures,
      eq-eqb _ _ c.if-stack-eq0.true,
    ) c.refused-then-stack-eq0.ensures

pub top_of-requires : goal.top_of-requires
top_of-requires c =
    let k = known _ _ _ _ (sym c.good_stacks.ensures ∙ c.if-not-good_stacks.false) (sym c.good.ensures ∙ c.if-not-good.false)
    (sym c.is_furnace.ensures ∙ c.if-not-is_furnace.false) (search rules) (search rules) in
    (omega (arith, c.if-stack-eq0.false), rw c.stack_of-stack.ensures k.most)

pub place-p-requires : goal.place-p-requires
place-p-requires c =
    let k = known _ _ _ _ (sym c.good_stacks.ensures ∙ c.if-not-good_stacks.false) (sym c.good.ensures ∙ c.if-not-good.false)
    (sym c.is_furnace.ensures ∙ c.if-not-is_furnace.false) (search rules) (search rules) in
    let some : 1 ≤ c.stack_of-stack.result.count = omega (arith, c.if-stack-eq0.false) in
    rw (read k c.stack_of-stack.ensures some c.top_of.ensures) (range_facts 200 (top c.stack_of-stack.result) (within k c.stack_of-stack.ensures some))

pub with_flag-requires : goal.with_flag-requires
with_flag-requires c =
    let k = known _ _ _ _ (sym c.good_stacks.ensures ∙ c.if-not-good_stacks.false) (sym c.good.ensures ∙ c.if-not-good.false)
    (sym c.is_furnace.ensures ∙ c.if-not-is_furnace.false) (search rules) (search rules) in
    let some : 1 ≤ c.stack_of-stack.result.count = omega (arith, c.if-stack-eq0.false) in
    let placed = c.place-p.ensures ∙ ap place_of (read k c.stack_of-stack.ensures some c.top_of.ensures) in
    omega (arith, placed, place_fits 200 (top c.stack_of-stack.result) (within k c.stack_of-stack.ensures some))

pub less_top-requires : goal.less_top-requires
less_top-requires c =
    let k = known _ _ _ _ (sym c.good_stacks.ensures ∙ c.if-not-good_stacks.false) (sym c.good.ensures ∙ c.if-not-good.false)
    (sym c.is_furnace.ensures ∙ c.if-not-is_furnace.false) (search rules) (search rules) in
    (rw (← c.stack_of-stack.ensures) (omega (arith, c.if-stack-eq0.false)), k.most)

pub returns : goal.returns
unfolding popped pop_faults
returns c =
    let good = sym c.good_stacks.ensures ∙ c.if-not-good_stacks.false in
    let board = sym c.good.ensures ∙ c.if-not-good.false in
    let furnace = sym c.is_furnace.ensures ∙ c.if-not-is_furnace.false in
    let some : 1 ≤ c.stack_of-stack.result.count = omega (arith, c.if-stack-eq0.false) in
    let placed = read (known _ _ _ _ good board furnace (search rules) (search rules)) c.stack_of-stack.ensures some c.top_of.ensures in
    rw (
      good,
      board,
      furnace,
      ← c.stack_of-stack.ensures,
      ne_eqb c.stack_of-stack.result.count 0 c.if-stack-eq0.false,
      c.with_flag.ensures,
      c.place-p.ensures ∙ ap place_of placed,
      c.less_top.ensures,
      c.stack_of-stack.ensures,
    )
