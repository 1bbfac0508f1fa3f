-- A text was written, buffer after buffer, and the next command stands in the input. The measure is what is left of the input.
use Rattle.std.proofs.Common.{◌≡◌, ℕ, ◌-◌, List, length}
use Rattle.std.specs.Io.KnownBytes.{Appends}
use Rattle.journal.specs.Told.{Runs}
use Rattle.journal.specs.Promises.{Handed}
use Rattle.journal.proofs.journal.Given as goal

abbrev pub invariant-loop-out : goal.invariant-loop-out
invariant-loop-out g l =
    (text : List ℕ) × Handed l.initial.table l.input l.run l.table text
    × Appends (g.W.Write.contents l.initial.to) (g.W.Write.contents l.to) text
    × Runs l.run l.input
    × (length l.out ≡ 4096)

abbrev pub decreases-loop-out : goal.decreases-loop-out
decreases-loop-out g l = length l.input - l.run.next
