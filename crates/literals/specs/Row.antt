-- 01, "What the board is": rows of the clause table. 02, Ticket 8: "Each row becomes nine numbers: the eight places as before, then the number of
-- its rule, from 1 in order of acceptance, rules with no rows counted."
use Rattle.std.specs.Prelude.{ℕ, zero, suc, ◌+◌, ◌*◌, ◌/◌, ◌≤◌, ◌<◌, min, ◌≡◌, Bool, true, false, cond, ◌&&◌, List, [], ◌∷◌, ◌++◌, map, leb, ltb, eqb, ℤ, pos, negsuc, nat_abs, length, take, drop, get_or, replicate}
use Rattle.meaning.specs.Tests.{all, from, keep, tabulate}
use Rattle.meaning.specs.Formulae.{Rule}
use Rattle.meaning.specs.Clauses.{rows_of}
use Rattle.literals.specs.Literal.{in_range, place_of, literal_at}

-- how many numbers a row has, and how many literals at most
abbrev pub width : ℕ
width = 9

abbrev pub most_literals : ℕ
most_literals = 8

-- "Rows lent is the length divided by 9, still at most 2,048"
abbrev pub rows_lent : List ℤ → ℕ
rows_lent table = min (length table / width) 2048

-- row r, from 0, is the nine numbers from place 9r on: "the eight places as before",
unfoldable pub numbers_at : List ℤ → ℕ → List ℤ
numbers_at table r = take most_literals (drop (width * r) table)

-- "then the number of its rule"; a number below 0 is no rule's, and is read as 0, which is none's either
abbrev pub rule_number : ℤ → ℕ
rule_number (pos n) = n
rule_number (negsuc k) = 0

unfoldable pub rule_at : List ℤ → ℕ → ℕ
rule_at table r = rule_number (get_or table (width * r + most_literals) (pos 0))

-- nothing but zeros
unfoldable pub zeros : List ℤ → Bool
zeros [] = true
zeros (l ∷ ls) = eqb (nat_abs l) 0 && zeros ls

-- literals whose symbol numbers strictly rise, from above `last` and up to S, "and zeros after them"
unfoldable pub rising : (S last : ℕ) → List ℤ → Bool
rising S last [] = true
rising S last (l ∷ ls) =
    cond (eqb (nat_abs l) 0) (zeros ls) (ltb last (nat_abs l) && leb (nat_abs l) S && rising S (nat_abs l) ls)

-- "A row is sound if it holds one to eight literals of symbols 1 to S, with strictly rising symbol numbers, and zeros after them."
unfoldable pub row_sound : (S : ℕ) → List ℤ → Bool
row_sound S [] = false
row_sound S (l ∷ ls) = in_range S l && rising S (nat_abs l) ls

-- "A board counts its accepted rules, at most 32,767"
abbrev pub most_rules : ℕ
most_rules = 32767

-- the rule number of the row before; before the first row none stands, and 1 is the least
unfoldable pub rule_before : List ℤ → ℕ → ℕ
rule_before table zero = 1
rule_before table (suc r) = rule_at table r

-- "A row is sound only if its rule number is from 1 to that count and not below that of the row before."
unfoldable pub rule_sound : (rules : ℕ) → List ℤ → ℕ → Bool
rule_sound rules table r = leb 1 (rule_at table r) && leb (rule_at table r) rules && leb (rule_before table r) (rule_at table r)

-- every row in use is sound
unfoldable pub rows_sound : (S rules used : ℕ) → List ℤ → Bool
rows_sound S rules used table = all (λ r. row_sound S (numbers_at table r) && rule_sound rules table r) (from 0 used)

-- the places of a row's literals, in order, "without the zeros"
unfoldable pub decode : List ℤ → List ℕ
decode [] = []
decode (l ∷ ls) = cond (eqb (nat_abs l) 0) [] (place_of l ∷ decode ls)

-- the rows in use, as lists of places
unfoldable pub rows_in : (used : ℕ) → List ℤ → List (List ℕ)
rows_in used table = tabulate used (λ r. decode (numbers_at table r))

-- a row's eight places as they are written: its literals, and zeros after them
unfoldable pub encode : List ℕ → List ℤ
encode row = take most_literals (map literal_at row ++ replicate most_literals (pos 0))

-- ---- rows with the numbers of their rules

pub record Ruled : Type 0 where
  pub rule : ℕ
  pub row : List ℕ

-- those in use
unfoldable pub ruled_in : (used : ℕ) → List ℤ → List Ruled
ruled_in used table = tabulate used (λ r. record { rule = rule_at table r; row = decode (numbers_at table r) })

-- the rows of one rule
abbrev pub of_rule : (rule : ℕ) → List (List ℕ) → List Ruled
of_rule rule rows = map (λ row. record { rule = rule; row = row }) rows

-- and those of rules in their order, of which the first has this number
abbrev pub of_rules : (rule : ℕ) → List Rule → List Ruled
of_rules rule [] = []
of_rules rule (r ∷ rs) = of_rule rule (rows_of r) ++ of_rules (suc rule) rs

-- the rows among them that carry a number
abbrev pub with_number : (rule : ℕ) → List Ruled → List (List ℕ)
with_number rule rows = map (λ r. r.row) (keep (λ r. eqb r.rule rule) rows)

-- a row's nine numbers
abbrev pub numbered : Ruled → List ℤ
numbered r = encode r.row ++ (pos r.rule ∷ [])

-- ---- what the calls that propagate know of a table once it is tested: nothing of its rule numbers

pub record Sound (S used : ℕ) (table : List ℤ) : Type 0 where
  pub symbols : S ≤ 200
  pub rows : used ≤ 2048
  pub room : width * used ≤ length table
  pub sound : (r : ℕ) → r < used → row_sound S (numbers_at table r) ≡ true

-- the first `used` rows are sound for so many places
abbrev pub Fit : (places used : ℕ) → List ℤ → Type 0
Fit places used table = (S : ℕ) × (places ≡ 2 * S) × Sound S used table
