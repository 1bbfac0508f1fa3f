-- By which of the three calls it is.
use Rattle.meaning.proofs.Kit.{to_z-of_z}
use Rattle.orders.proofs.Carried.{held_does, dropped_does, pushed_does}
use Rattle.orders.proofs.taking.act.Goals as goal

pub returns-in-Hold : goal.returns-in-Hold
returns-in-Hold c = rw (c.of_step.ensures, c.hold-change.ensures, to_z-of_z c.ranges.l, c.in-Hold.is) (held_does _ _ _ _ _)

pub returns-in-Drop : goal.returns-in-Drop
returns-in-Drop c = rw (c.of_step-in-Drop.ensures, c.withdraw.ensures, to_z-of_z c.ranges.l, c.in-Drop.is) (dropped_does _ _ _ _ _)

pub returns-in-Push : goal.returns-in-Push
returns-in-Push c = rw (c.of_step-in-Push.ensures, c.push.ensures, to_z-of_z c.ranges.l, c.in-Push.is) (pushed_does _ _ _ _ _)
