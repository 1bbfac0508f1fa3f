-- Which clauses are hit, as a table by number, and primality from it by leaving out one literal.
use Rattle.std.specs.Prelude.{Bool, false, not, cond, ◌&&◌, ◌||◌, List, [], ◌∷◌, ◌++◌, map, ℕ, ◌+◌, ◌*◌, ◌^◌, length, get_or, take, drop}
use Rattle.meaning.specs.Clauses.{Digit, clauses, hit, lone}
use Rattle.implicates.specs.Numbers.{number}

-- an assignment's number: one bit a symbol, the first symbol's the highest
abbrev pub index : List Bool → ℕ
index [] = 0
index (b ∷ a) = cond b (2 ^ length a) 0 + index a

-- the assignments that a truth table accepts
abbrev pub sat_of : List Bool → List Bool → Bool
sat_of truth a = get_or truth (index a) false

-- which clauses are hit, in the order of their numbers
unfoldable pub hit_table : ℕ → List Bool → List Bool
hit_table n truth = map (hit (sat_of truth)) (clauses n)

-- where one of two lists or the other has `true`
abbrev pub either : List Bool → List Bool → List Bool
either [] ys = []
either (x ∷ xs) [] = []
either (x ∷ xs) (y ∷ ys) = (x || y) ∷ either xs ys

-- the list with its last third made of the first two
abbrev pub joined : ℕ → List Bool → List Bool
joined third xs = take (2 * third) xs ++ either (take third xs) (take third (drop third xs))

-- a table by number has the clause
abbrev pub marked : List Bool → List Digit → Bool
marked table v = get_or table (number v) false

-- prime by a table of hits: the clause is not hit, and each clause without one of its literals is
abbrev pub prime_in : List Bool → List Digit → Bool
prime_in hits v = not (marked hits v) && lone (marked hits) v

-- which clauses are prime by a table of hits, in the order of their numbers
unfoldable pub prime_table : ℕ → List Bool → List Bool
prime_table n hits = map (prime_in hits) (clauses n)
