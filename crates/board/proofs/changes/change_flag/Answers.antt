-- Its tests are the faults of `flag_faults`, in their order.
use Rattle.meaning.proofs.Kit.{arith, drop, rules}
use Rattle.board.specs.Furnaces.{held_by}
use Rattle.board.specs.Changes.{flag_faults, flag_changed}
use Rattle.board.proofs.TwoSets.{held_long}
use Rattle.board.proofs.Placing.{placed_at, placed_refused}
use Rattle.board.proofs.changes.change_flag.Goals as goal

pub bounds-held-p : goal.bounds-held-p
bounds-held-p c =
    let at = placed_at _ _ _ c.ranges.l c.place_on.ensures c.in-Ok.is in
    let long = held_long c.args.board c.args.furnace 400 at.is_furnace (search rules) (search rules) c.premises-held.ensures in
    omega (arith, at.low, at.good.sound.symbols, long)

pub returns-then-held-p : goal.returns-then-held-p
unfolding flag_changed flag_faults held_by
returns-then-held-p c =
    let at = placed_at _ _ _ c.ranges.l c.place_on.ensures c.in-Ok.is in
    rw (at.is_good_lem, at.is_furnace, at.in_range_lem, ← at.place, ← c.premises-held.ensures, c.if-held-p.true) c.refused-then-held-p.ensures

pub with_flag-requires : goal.with_flag-requires
with_flag-requires c =
    let at = placed_at _ _ _ c.ranges.l c.place_on.ensures c.in-Ok.is in
    omega (arith, at.low, at.good.sound.symbols)

pub returns-in-Err : goal.returns-in-Err
unfolding flag_changed flag_faults
returns-in-Err c =
    let own = drop 3 (flag_faults c.args.table.now c.args.board c.args.furnace c.args.l c.args.flag c.args.already) in
    rw (placed_refused _ _ _ c.ranges.l c.place_on.ensures c.in-Err.is own) c.refused.ensures

pub returns-else-held-p : goal.returns-else-held-p
unfolding flag_changed flag_faults held_by
returns-else-held-p c =
    let at = placed_at _ _ _ c.ranges.l c.place_on.ensures c.in-Ok.is in
    rw (at.is_good_lem, at.is_furnace, at.in_range_lem, ← at.place, c.with_flag.ensures, ← c.premises-held.ensures, c.if-held-p.false)
