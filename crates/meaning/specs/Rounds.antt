-- 01, "Rounds of propagation". Rows are lists of places, `places` is 2S, and `held` is the set of held premises.
use Rattle.std.specs.Prelude.{Bool, true, false, cond, ◌&&◌, ◌||◌, List, [], ℕ, zero, suc, ◌*◌, eqb, length, get_or}
use Rattle.meaning.specs.Tests.{any, all, member, tabulate, none, first}
use Rattle.meaning.specs.Literals.{place, opp, has}

-- "some row in use contains L and the opposite of each other literal of that row has a rank below k": `known` are the literals
-- with such a rank
unfoldable pub gives : List Bool → List ℕ → ℕ → Bool
gives known row p = member p row && all (λ q. eqb q p || has known (opp q)) row

abbrev pub by_rows : List (List ℕ) → List Bool → ℕ → Bool
by_rows rows known p = any (λ row. gives known row p) rows

-- one round: what is known, and what that gives. The second way of demand 3 has the same rounds with another `step`.
unfoldable pub next : ℕ → (List Bool → ℕ → Bool) → List Bool → List Bool
next places step known = tabulate places (λ p. has known p || step known p)

-- what is known after k rounds. "Rank 0: the held premises. Round k, from 1: .."
unfoldable pub reached : ℕ → (List Bool → ℕ → Bool) → List Bool → ℕ → List Bool
reached places step held zero = tabulate places (λ p. has held p)
reached places step held (suc k) = next places step (reached places step held k)

-- "Rounds go on until one adds nothing": 2S rounds are enough (`Rounds.settled`)
abbrev pub closure : ℕ → (List Bool → ℕ → Bool) → List Bool → List Bool
closure places step held = reached places step held places

-- the literals of rank k or below
abbrev pub after : ℕ → List (List ℕ) → List Bool → ℕ → List Bool
after places rows held k = reached places (by_rows rows) held k

-- "The derived literals are those with a rank."
abbrev pub derived : ℕ → List (List ℕ) → List Bool → List Bool
derived places rows held = after places rows held places

-- the rank, as far as k rounds tell: the first round that has the literal
unfoldable pub rank_by : ℕ → List (List ℕ) → List Bool → ℕ → ℕ → ℕ
rank_by places rows held k p = first (λ j. has (after places rows held j) p) (suc k)

abbrev pub rank_of : ℕ → List (List ℕ) → List Bool → ℕ → ℕ
rank_of places rows held p = rank_by places rows held places p

-- the lowest-numbered row that gives the literal
unfoldable pub first_giver : List Bool → List (List ℕ) → ℕ → ℕ
first_giver known rows p = first (λ r. gives known (get_or rows r []) p) (length rows)

-- "The support of a derived literal that isn't held is the lowest-numbered row that gave it its rank by that rule."
-- `known k` is what has a rank of k or below. (The `let` waits: at rank none no row is looked for.)
unfoldable pub support_at : (ℕ → List Bool) → List (List ℕ) → ℕ → ℕ → ℕ
support_at known rows zero p = none
support_at known rows (suc k) p = let row = first_giver (known k) rows p in cond (eqb (suc k) none) none row

unfoldable pub support_of : ℕ → List (List ℕ) → List Bool → ℕ → ℕ
support_of places rows held p = support_at (after places rows held) rows (rank_of places rows held p) p

-- "0 neither literal derived, 1 only +s, 2 only −s, 3 both"
abbrev pub label_of : Bool → Bool → ℕ
label_of false false = 0
label_of true false = 1
label_of false true = 2
label_of true true = 3

abbrev pub label : List Bool → ℕ → ℕ
label known s = label_of (has known (place s true)) (has known (place s false))

-- the three tables that settle writes
unfoldable pub ranks_of : ℕ → List (List ℕ) → List Bool → List ℕ
ranks_of places rows held = tabulate places (rank_of places rows held)

unfoldable pub supports_of : ℕ → List (List ℕ) → List Bool → List ℕ
supports_of places rows held = tabulate places (support_of places rows held)

unfoldable pub labels_of : ℕ → List (List ℕ) → List Bool → List ℕ
labels_of symbols rows held = tabulate symbols (λ i. label (derived (2 * symbols) rows held) (suc i))
