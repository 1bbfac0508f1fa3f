-- 01, "What the board is": literals and their opposites. A literal is known by its place in the tables that have one for each
-- literal: "+s at place 2(s−1), −s at the next". A set of literals is a list of Booleans, one for each place.
use Rattle.std.specs.Prelude.{◌≡◌, Bool, true, false, cond, ◌&&◌, ◌||◌, List, [], ◌∷◌, ℕ, ◌+◌, ◌-◌, ◌*◌, ◌%◌, eqb, get_or}

-- the literal that gives symbol s a truth value: +s says that it is true, −s that it is false
abbrev pub place : ℕ → Bool → ℕ
place s true = 2 * (s - 1)
place s false = 2 * (s - 1) + 1

-- the opposite literal: the other one of the symbol's two places
unfoldable pub opp : ℕ → ℕ
opp p = cond (eqb (p % 2) 0) (p + 1) (p - 1)

-- the set has the literal
abbrev pub has : List Bool → ℕ → Bool
has known p = get_or known p false

-- every literal of the first set is in the second
abbrev pub Within : List Bool → List Bool → Type 0
Within a b = (p : ℕ) → has a p ≡ true → has b p ≡ true

-- "in conflict if some literal and its opposite are both derived": a symbol's two literals are neighbours
abbrev pub conflict : List Bool → Bool
conflict [] = false
conflict (plus ∷ []) = false
conflict (plus ∷ minus ∷ known) = plus && minus || conflict known
