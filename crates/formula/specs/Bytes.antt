-- The prefix bytes of a formula: "Formulae stand in prefix order", a kind byte and then what it is of.
use Rattle.std.specs.Prelude.{ℕ, cond, List, [], ◌∷◌, ◌++◌, leb}
use Rattle.meaning.specs.Formulae.{Formula, symbol, neg, and, or, imp, same}

-- "a number above 255 counts as one byte that gives 2", as 255 does: no board has so many symbols
abbrev pub number_byte : ℕ → ℕ
number_byte n = cond (leb n 255) n 255

unfoldable pub bytes_of : Formula → List ℕ
bytes_of (symbol s) = 0x10 ∷ number_byte s ∷ []
bytes_of (neg f) = 0x11 ∷ bytes_of f
bytes_of (and f g) = 0x12 ∷ bytes_of f ++ bytes_of g
bytes_of (or f g) = 0x13 ∷ bytes_of f ++ bytes_of g
bytes_of (imp f g) = 0x14 ∷ bytes_of f ++ bytes_of g
bytes_of (same f g) = 0x15 ∷ bytes_of f ++ bytes_of g
