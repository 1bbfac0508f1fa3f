-- 02, Ticket 3: "Keep .., for each literal, the rows that contain its opposite, and visit only those when it gets a rank". For each literal,
-- the cells that hold it, lowest first. A cell is one of a row's eight places for literals: those of row r are numbered from 8r on.
use Rattle.std.specs.Prelude.{ℕ, suc, ◌+◌, ◌*◌, ◌/◌, ◌%◌, ◌<◌, ◌≡◌, Bool, true, cond, not, ◌&&◌, List, leb, eqb, ℤ, pos, nat_abs, get_or}
use Rattle.meaning.specs.Tests.{member, first, tabulate}
use Rattle.literals.specs.Literal.{place_of}
use Rattle.literals.specs.Row.{width, most_literals, numbers_at, decode}

-- row r contains the literal p
abbrev pub Contains : List ℤ → (r p : ℕ) → Type 0
Contains table r p = member p (decode (numbers_at table r)) ≡ true

-- the number in cell i
abbrev pub in_cell : List ℤ → ℕ → ℤ
in_cell table i = get_or table (width * (i / most_literals) + i % most_literals) (pos 0)

-- cell i is empty: its number is 0
unfoldable pub empty : List ℤ → ℕ → Bool
empty table i = eqb (nat_abs (in_cell table i)) 0

-- cell i holds the literal p
unfoldable pub holds : List ℤ → (p i : ℕ) → Bool
holds table p i = not (empty table i) && eqb (place_of (in_cell table i)) p

-- the lowest cell from `from` on, of those of the first `used` rows, that holds p; 65535 where none does
unfoldable pub next_cell : (used : ℕ) → List ℤ → (p from : ℕ) → ℕ
next_cell used table p from = first (λ i. leb from i && holds table p i) (most_literals * used)

-- where the list of each literal starts
unfoldable pub heads_of : (places used : ℕ) → List ℤ → List ℕ
heads_of places used table = tabulate places (λ p. next_cell used table p 0)

-- where each cell's list goes on; what stands at an empty cell stays
unfoldable pub links_of : (used : ℕ) → List ℤ → List ℕ → List ℕ
links_of used table lent =
    tabulate (most_literals * used) (λ i. cond (empty table i) (get_or lent i 0) (next_cell used table (place_of (in_cell table i)) (suc i)))

-- the two tables as those who follow a list know them
pub record Index (places used : ℕ) (table : List ℤ) (heads links : List ℕ) : Type 0 where
  pub heads_are : heads ≡ heads_of places used table
  pub links_are : (i p : ℕ) → i < most_literals * used → holds table p i ≡ true → get_or links i 0 ≡ next_cell used table p (suc i)
