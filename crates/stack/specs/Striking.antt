-- How the test of a stack is worked out: each literal strikes off its own flag, so that a repeated one finds none.
use Rattle.std.specs.Prelude.{ℕ, Bool, true, false, ◌&&◌, List, [], ◌∷◌, ℤ, set}
use Rattle.meaning.specs.Literals.{has}
use Rattle.literals.specs.Literal.{in_range, place_of}

abbrev pub all_struck : (S : ℕ) → (left : List Bool) → List ℤ → Bool
all_struck S left [] = true
all_struck S left (l ∷ on) = in_range S l && has left (place_of l) && all_struck S (set left (place_of l) false) on
