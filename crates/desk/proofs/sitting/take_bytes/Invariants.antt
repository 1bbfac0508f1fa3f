-- The desk is where the bytes before the place bring it. The measure is what is left of them.
use Rattle.std.proofs.Common.{◌≡◌, ◌≤◌, ◌-◌, length, take}
use Rattle.names.specs.Names.{table_length}
use Rattle.saying.specs.Limits.{kept_length}
use Rattle.desk.specs.Sittings.{sat, after_bytes}
use Rattle.desk.proofs.sitting.take_bytes.Given as goal

abbrev pub invariant-loop-at : goal.invariant-loop-at
invariant-loop-at g l =
    (sat l.here l.table l.names l.line ≡ after_bytes (sat l.fn.sitting l.fn.table l.fn.names l.fn.line) (take l.at l.bytes))
    × (l.here.filled ≤ 502)
    × (length l.names ≡ table_length)
    × (length l.texts ≡ kept_length)
    × (length l.line ≡ 502)

abbrev pub decreases-loop-at : goal.decreases-loop-at
decreases-loop-at g l = length l.bytes - l.at
