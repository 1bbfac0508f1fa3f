-- One stands twice just if one of the places from i on does.
use Rattle.std.proofs.Common.{◌≡◌, drop}
use Rattle.candidates.specs.Given.{repeats}
use Rattle.candidates.proofs.given.repeated.Given as goal

abbrev pub invariant-loop-i : goal.invariant-loop-i
invariant-loop-i l = repeats (drop l.i l.places) ≡ repeats l.places
