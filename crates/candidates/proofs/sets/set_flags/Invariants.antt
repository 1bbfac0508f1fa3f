-- What is left to set of the flags gives what is to be.
use Rattle.std.proofs.Common.{◌≡◌, drop}
use Rattle.candidates.specs.Sets.{chosen, set_each}
use Rattle.candidates.proofs.sets.set_flags.Given as goal

abbrev pub invariant-loop-place : goal.invariant-loop-place
invariant-loop-place l =
    set_each l.to l.flags (chosen (drop l.place-index l.places) l.rest) ≡ set_each l.to l.initial.flags (chosen l.places l.set)
