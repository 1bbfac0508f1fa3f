-- What is promised of these definitions, each as a type. The proofs are in `proofs/`, under the same names in small letters.
use Rattle.std.specs.Prelude.{◌≡◌, ◌↔◌, ◌≢◌, true, false, ℕ, ◌^◌, ◌<◌, ℤ, pos, length, get_or}
use mathlib.Core.List.{List, Memᴰ as In}
use Rattle.meaning.specs.Tests.{all, bit}
use Rattle.literals.specs.Literal.{in_range}
use Rattle.candidates.specs.Given.{places_of, repeats}
use Rattle.candidates.specs.Sets.{chosen, size}

-- "candidate literals, all different": of literals of the board, no place stands twice just if no literal does
abbrev pub AllDifferent : Type 0
AllDifferent =
    (S : ℕ) (cands : List ℤ) → all (in_range S) cands ≡ true
    → (repeats (places_of cands) ≡ false)
    ↔ ((i j : ℕ) → i < length cands → j < length cands → get_or cands i (pos 0) ≡ get_or cands j (pos 0) → i ≡ j)

-- ---- sets of candidates

-- "bit i stands for candidate i": a set has the candidates whose bits are set,
abbrev pub ChosenAre : Type 0
ChosenAre =
    (cands : List ℕ) (m c : ℕ) → In c (chosen cands m) ↔ ((i : ℕ) × (i < length cands) × (get_or cands i 0 ≡ c) × (bit i m ≡ true))

-- its size is their number,
abbrev pub SizeIs : Type 0
SizeIs = (cands : List ℕ) (m : ℕ) → length (chosen cands m) ≡ size (length cands) m

-- and a is inside b if every bit of a is one of b: another set that is inside it is smaller, in size and by number;
abbrev pub Inside : ℕ → ℕ → Type 0
Inside a b = (i : ℕ) → bit i a ≡ true → bit i b ≡ true

abbrev pub InsideSmaller : Type 0
InsideSmaller = (n a b : ℕ) → a < 2 ^ n → b < 2 ^ n → Inside a b → a ≢ b → (size n a < size n b) × (a < b)

-- and where no candidate is given twice, a is inside b just if each candidate of a is one of b's
abbrev pub Different : List ℕ → Type 0
Different cands = (i j : ℕ) → i < length cands → j < length cands → get_or cands i 0 ≡ get_or cands j 0 → i ≡ j

abbrev pub InsideIs : Type 0
InsideIs =
    (cands : List ℕ) (a b : ℕ) → Different cands → a < 2 ^ length cands
    → Inside a b ↔ ((c : ℕ) → In c (chosen cands a) → In c (chosen cands b))
