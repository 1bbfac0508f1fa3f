-- The places of the first i candidates are written.
use Rattle.std.proofs.Common.{◌≡◌, ◌<◌, ℕ, pos, length, get_or}
use Rattle.literals.specs.Literal.{place_of}
use Rattle.candidates.proofs.given.write_places.Given as goal

abbrev pub invariant-loop-i : goal.invariant-loop-i
invariant-loop-i l =
    (length l.places ≡ length l.candidates) × ((j : ℕ) → j < l.i → get_or l.places j 0 ≡ place_of (get_or l.candidates j (pos 0)))
