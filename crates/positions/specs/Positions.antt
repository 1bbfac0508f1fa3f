-- 02, Ticket 13, "Valves with several positions": position variables and pair tables, and the rules that each enters.
use Rattle.std.specs.Prelude.{Bool, true, false, cond, not, ◌&&◌, List, [], ◌∷◌, ◌++◌, map, ℕ, zero, suc, ◌+◌, ◌-◌, ◌*◌, leb, ltb}
use Rattle.meaning.specs.Tests.{any, member, keep, from, bit}
use Rattle.meaning.specs.Literals.{place}
use Rattle.meaning.specs.Formulae.{Formula, symbol, neg, and, or}

-- ---- position variables

-- "consecutive symbols .. given by first symbol and count"
pub record Variable : Type 0 where
  pub first : ℕ
  pub count : ℕ

-- the symbol of position i, from 0, and its two literals: that the valve is in this position, and that it is not
abbrev pub symbol_at : Variable → ℕ → ℕ
symbol_at x i = x.first + i

abbrev pub on : Variable → ℕ → ℕ
on x i = place (symbol_at x i) true

abbrev pub off : Variable → ℕ → ℕ
off x i = place (symbol_at x i) false

-- its symbols
abbrev pub symbols_in : Variable → List ℕ
symbols_in x = from x.first x.count

-- none of the symbols from s to s + n is true
unfoldable pub none_of : (s n : ℕ) → Formula
none_of s zero = neg (symbol s)
none_of s (suc n) = and (neg (symbol s)) (none_of (suc s) n)

-- "exactly one true": the first and none of the others, or not the first and exactly one of the others
unfoldable pub exactly_one : (s n : ℕ) → Formula
exactly_one s zero = symbol s
exactly_one s (suc n) = or (and (symbol s) (none_of (suc s) n)) (and (neg (symbol s)) (exactly_one (suc s) n))

-- ---- pair tables

-- "pair tables between two variables, the allowed pairs a 64-bit number"
pub record PairTable : Type 0 where
  pub one : Variable
  pub other : Variable
  pub allowed : ℕ

-- "bit 7i+j for positions i and j, from 0, other bits ignored"
abbrev pub allows : PairTable → ℕ → ℕ → Bool
allows t i j = bit (7 * i + j) t.allowed

-- a pair table as one of its variables sees it: its position i may stand with position j of its partner
pub record Side : Type 0 where
  pub own : Variable
  pub partner : Variable
  pub may : ℕ → ℕ → Bool

-- "from both sides", "the first variable's before the second's"
abbrev pub first_side : PairTable → Side
first_side t = record { own = t.one; partner = t.other; may = λ (i j : ℕ). allows t i j }

abbrev pub second_side : PairTable → Side
second_side t = record { own = t.other; partner = t.one; may = λ (j i : ℕ). allows t i j }

abbrev pub sides : PairTable → List Side
sides t = first_side t ∷ second_side t ∷ []

-- the symbols of the positions of the partner that position i may stand with
abbrev pub partners : Side → ℕ → List ℕ
partners s i = map (symbol_at s.partner) (keep (s.may i) (from 0 s.partner.count))

-- "the clause that it is false or some allowed position of the other is true"
unfoldable pub false_or : (s : ℕ) → (partners : List ℕ) → Formula
false_or s [] = neg (symbol s)
false_or s (t ∷ ts) = or (symbol t) (false_or s ts)

abbrev pub pair_clause : Side → ℕ → Formula
pair_clause s i = false_or (symbol_at s.own i) (partners s i)

-- as a row: its literals by rising symbols
abbrev pub pair_row : Side → ℕ → List ℕ
pair_row s i =
    let others = map (λ (t : ℕ). place t true) (partners s i) in
    cond (ltb s.own.first s.partner.first) (off s.own i ∷ others) (others ++ off s.own i ∷ [])

-- "For each position", in order
abbrev pub pair_clauses : Side → List Formula
pair_clauses s = map (pair_clause s) (from 0 s.own.count)

-- ---- what is entered

pub data Entry : Type 0 where
  positions : Variable → Entry
  pairs : PairTable → Entry

-- a variable is "entered as one rule"; of a pair table "each such clause counts as one rule"
unfoldable pub formulae_of : Entry → List Formula
formulae_of (positions x) = exactly_one x.first (x.count - 1) ∷ []
formulae_of (pairs t) = pair_clauses (first_side t) ++ pair_clauses (second_side t)

abbrev pub formulae_of_all : List Entry → List Formula
formulae_of_all [] = []
formulae_of_all (e ∷ entries) = formulae_of e ++ formulae_of_all entries

-- ---- what is asked of it

-- 2: a "symbol is 0 or beyond S", "also for a last symbol beyond S"
abbrev pub on_board : (S : ℕ) → Variable → Bool
on_board S x = leb 1 x.first && leb x.first S && leb (x.first + x.count) (suc S)

unfoldable pub symbols_fit : (S : ℕ) → Entry → Bool
symbols_fit S (positions x) = on_board S x
symbols_fit S (pairs t) = on_board S t.one && on_board S t.other

-- 19: "a count outside 2 to 7 or a pair table whose two variables share a symbol"
abbrev pub counted : Variable → Bool
counted x = leb 2 x.count && leb x.count 7

abbrev pub share : Variable → Variable → Bool
share x y = any (λ s. member s (symbols_in y)) (symbols_in x)

unfoldable pub well_formed : Entry → Bool
well_formed (positions x) = counted x
well_formed (pairs t) = counted t.one && counted t.other && not (share t.one t.other)

-- 8: "a pair table that allows no pair"; a variable always has a position to be in
unfoldable pub possible : Entry → Bool
possible (positions x) = true
possible (pairs t) = any (λ i. any (allows t i) (from 0 t.other.count)) (from 0 t.one.count)

-- an entry that a board of S symbols takes, if it has room
abbrev pub suits : (S : ℕ) → Entry → Bool
suits S e = symbols_fit S e && well_formed e && possible e
