-- All places are held just if those from this one on are.
use Rattle.std.proofs.Common.{◌≡◌, drop}
use Rattle.meaning.specs.Tests.{all}
use Rattle.meaning.specs.Literals.{has}
use Rattle.least.proofs.call.all_held.Given as goal

abbrev pub invariant-loop-place : goal.invariant-loop-place
invariant-loop-place l = all (has l.held) (drop l.place-index l.places) ≡ all (has l.held) l.places
