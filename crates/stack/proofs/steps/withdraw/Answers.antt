-- It is the board's withdraw, but for a literal that is stacked.
use Rattle.meaning.proofs.Kit.{◌∙◌, sym, ap, false, ◌&&◌, to_z-of_z, rules}
use Rattle.board.specs.Furnaces.{held_by}
use Rattle.meaning.proofs.Tests.{both_true, all_imp}
use Rattle.meaning.specs.Literals.{has}
use Rattle.literals.specs.Literal.{in_range, place_of}
use Rattle.literals.proofs.Arguments.{range_more}
use Rattle.literals.specs.declared.refusal.Refusal.TheVariants.{NotHeld}
use Rattle.board.specs.Changes.{withdraw_answer}
use Rattle.stack.specs.Stacking.{stacked, stack_of, on_stack}
use Rattle.stack.specs.Steps.{withdraw_faults_with, withdrawn_with}
use Rattle.stack.proofs.Known.{known}
use Rattle.stack.proofs.Stepping.{flag_done, withdraw_refused, withdraw_stacked, withdraw_done}
use Rattle.stack.proofs.steps.withdraw.Goals as goal

pub returns-then-not-good_stacks : goal.returns-then-not-good_stacks
unfolding withdrawn_with withdraw_faults_with
returns-then-not-good_stacks c = rw (sym c.good_stacks.ensures ∙ c.if-not-good_stacks.true) c.refused.ensures

pub is_stacked-requires : goal.is_stacked-requires
is_stacked-requires c =
    let a = c.args in
    let S = a.board.symbols in
    let same = c.withdraw-change.ensures ∙ ap (withdraw_answer a.table.now a.board a.furnace) (to_z-of_z c.ranges.l) in
    let d = flag_done _ _ _ _ false NotHeld (ap (λ r. r.outcome) (sym same) ∙ c.in-Ok.is) in
    let k = known _ _ _ _ (sym c.good_stacks.ensures ∙ c.if-not-good_stacks.false) d.is_good_lem d.is_furnace (search rules) (search rules) in
    rw c.stack_of.ensures (
      k.most,
      all_imp (λ l. in_range S l && has (held_by a.board a.furnace) (place_of l)) (in_range 200) (on_stack (stack_of a.stacks a.furnace))
          (λ l m h. range_more S l (both_true _ _ h).0 200 k.symbols) k.good.held_each,
      ap (in_range 200) (to_z-of_z c.ranges.l) ∙ range_more S a.l d.in_range_lem 200 k.symbols,
    )

pub returns-then-is_stacked : goal.returns-then-is_stacked
unfolding stacked
returns-then-is_stacked c =
    let a = c.args in
    let same = c.withdraw-change.ensures ∙ ap (withdraw_answer a.table.now a.board a.furnace) (to_z-of_z c.ranges.l) in
    let on = sym (rw (c.stack_of.ensures, to_z-of_z c.ranges.l) at c.is_stacked.ensures) ∙ c.if-is_stacked.true in
    c.refused-then-is_stacked.ensures
    ∙ sym (withdraw_stacked _ _ _ _ _ (sym c.good_stacks.ensures ∙ c.if-not-good_stacks.false) (ap (λ r. r.outcome) (sym same) ∙ c.in-Ok.is) on)

pub returns-in-Err : goal.returns-in-Err
returns-in-Err c =
    let a = c.args in
    let same = c.withdraw-change.ensures ∙ ap (withdraw_answer a.table.now a.board a.furnace) (to_z-of_z c.ranges.l) in
    c.refused-in-Err.ensures
    ∙ sym (withdraw_refused _ _ _ _ _ (sym c.good_stacks.ensures ∙ c.if-not-good_stacks.false) (ap (λ r. r.outcome) (sym same) ∙ c.in-Err.is))

pub returns-else-is_stacked : goal.returns-else-is_stacked
unfolding stacked
returns-else-is_stacked c =
    let a = c.args in
    let same = c.withdraw-change.ensures ∙ ap (withdraw_answer a.table.now a.board a.furnace) (to_z-of_z c.ranges.l) in
    let off = sym (rw (c.stack_of.ensures, to_z-of_z c.ranges.l) at c.is_stacked.ensures) ∙ c.if-is_stacked.false in
    let done = ap (λ r. r.outcome) (sym same) ∙ c.in-Ok.is in
    rw same (sym (withdraw_done _ _ _ _ _ (sym c.good_stacks.ensures ∙ c.if-not-good_stacks.false) done off))
