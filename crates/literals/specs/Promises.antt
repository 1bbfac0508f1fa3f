-- What is promised of the spelling of literals, each as a type. The proofs are in `proofs/`, under the same names in small letters.
use Rattle.std.specs.Prelude.{◌≡◌, ℕ, ◌≤◌, ℤ, nat_abs, neg_ℤ}
use Rattle.meaning.specs.Literals.{opp}
use Rattle.literals.specs.Literal.{place_of, literal_at}

-- ---- a literal is its place, and the other way round

abbrev pub PlaceOfLiteral : Type 0
PlaceOfLiteral = (p : ℕ) → place_of (literal_at p) ≡ p

abbrev pub LiteralAtPlace : Type 0
LiteralAtPlace = (l : ℤ) → 1 ≤ nat_abs l → literal_at (place_of l) ≡ l

-- ---- "The opposite of a literal is its negation": at the other place of its symbol

abbrev pub OppositePlace : Type 0
OppositePlace = (l : ℤ) → 1 ≤ nat_abs l → place_of (neg_ℤ l) ≡ opp (place_of l)

abbrev pub OppositeLiteral : Type 0
OppositeLiteral = (p : ℕ) → literal_at (opp p) ≡ neg_ℤ (literal_at p)
