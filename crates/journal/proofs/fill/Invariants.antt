-- `journal::fill` meets its contract. The invariant: the buffer and what is still to come are the same text. The measure is what is left of
-- the input.
use Rattle.std.specs.Prelude.{◌≡◌, ◌≤◌, ◌-◌, length}
use Rattle.journal.specs.Told.{Runs, told}
use Rattle.journal.proofs.fill.Given as goal

abbrev pub invariant-loop-table : goal.invariant-loop-table
invariant-loop-table l =
    (told l.here l.table l.input l.out ≡ told l.initial.here l.initial.table l.input l.initial.out)
    × (l.initial.here.next ≤ l.here.next)
    × Runs l.here l.input
    × (l.here.filled ≤ length l.out)
    × (length l.out ≡ length l.initial.out)
    × (length l.table ≡ length l.initial.table)

abbrev pub decreases-loop-table : goal.decreases-loop-table
decreases-loop-table l = length l.input - l.here.next
