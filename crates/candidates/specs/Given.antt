-- "at most 12 candidate literals, all different" (02, Ticket 10); "a list of readings he may strike off, at most 12" (Ticket 12)
use Rattle.std.specs.Prelude.{ℕ, Bool, false, not, ◌||◌, List, [], ◌∷◌, map, leb, ℤ, length}
use Rattle.meaning.specs.Tests.{member}
use Rattle.literals.specs.Literal.{place_of}

abbrev pub most_candidates : ℕ
most_candidates = 12

abbrev pub too_many : List ℤ → Bool
too_many cands = not (leb (length cands) most_candidates)

abbrev pub places_of : List ℤ → List ℕ
places_of cands = map place_of cands

-- some place stands twice
abbrev pub repeats : List ℕ → Bool
repeats [] = false
repeats (p ∷ places) = member p places || repeats places
