-- The candidates from i on that are marked are in the set.
use Rattle.std.proofs.Common.{◌≡◌, drop}
use Rattle.least.specs.Effects.{marked_set}
use Rattle.least.proofs.effects.marked.Given as goal

abbrev pub invariant-loop-i : goal.invariant-loop-i
invariant-loop-i l = l.set ≡ marked_set l.marks (drop l.i l.places)
