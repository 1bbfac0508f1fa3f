-- It is the board's hold, and on a stack of premises there is room for a literal that was none.
use Rattle.meaning.proofs.Kit.{◌∙◌, sym, ap, true, arith, to_z-of_z, rules}
use Rattle.literals.specs.declared.refusal.Refusal.TheVariants.{AlreadyHeld}
use Rattle.board.specs.Changes.{flag_changed, hold_answer}
use Rattle.stack.specs.Steps.{push_faults, pushed}
use Rattle.stack.proofs.Known.{known}
use Rattle.stack.proofs.Room.{room_left}
use Rattle.stack.proofs.Stepping.{flag_done}
use Rattle.stack.proofs.steps.push.Goals as goal

pub returns-then-not-good_stacks : goal.returns-then-not-good_stacks
unfolding pushed push_faults
returns-then-not-good_stacks c = rw (sym c.good_stacks.ensures ∙ c.if-not-good_stacks.true) c.refused.ensures

pub on_top-requires : goal.on_top-requires
on_top-requires c =
    let a = c.args in
    let same = c.hold-change.ensures ∙ ap (hold_answer a.table.now a.board a.furnace) (to_z-of_z c.ranges.l) in
    let d = flag_done _ _ _ _ true AlreadyHeld (ap (λ r. r.outcome) (sym same) ∙ c.in-Ok.is) in
    let k = known _ _ _ _ (sym c.good_stacks.ensures ∙ c.if-not-good_stacks.false) d.is_good_lem d.is_furnace (search rules) (search rules) in
    omega (arith, room_left _ _ _ a.l k.is_good_lem k.places d.in_range_lem d.was, k.symbols)

pub returns-in-Err : goal.returns-in-Err
unfolding pushed push_faults flag_changed
returns-in-Err c =
    let a = c.args in
    let same = c.hold-change.ensures ∙ ap (hold_answer a.table.now a.board a.furnace) (to_z-of_z c.ranges.l) in
    rw (sym c.good_stacks.ensures ∙ c.if-not-good_stacks.false, ap (λ r. r.outcome) (sym same) ∙ c.in-Err.is) c.refused-in-Err.ensures

pub returns-in-Ok : goal.returns-in-Ok
unfolding pushed push_faults flag_changed
returns-in-Ok c =
    let a = c.args in
    let same = c.hold-change.ensures ∙ ap (hold_answer a.table.now a.board a.furnace) (to_z-of_z c.ranges.l) in
    rw (
      same,
      c.on_top.ensures,
      to_z-of_z c.ranges.l,
      sym c.good_stacks.ensures ∙ c.if-not-good_stacks.false,
      ap (λ r. r.outcome) (sym same) ∙ c.in-Ok.is,
    )
