-- The marks of a pair table, from word 5 of its line on: a word for each position of the first valve, in it a mark for each position of the second.
use Rattle.std.specs.Prelude.{ℕ, zero, suc, ◌+◌, ◌*◌, Bool, true, cond, not, ◌&&◌, ◌||◌, List, [], ◌∷◌, eqb, leb, length}
use Rattle.meaning.specs.Tests.{all}
use Rattle.orders.specs.Words.{ends_at, word_at}

abbrev pub is_mark : ℕ → Bool
is_mark c = leb 48 c && leb c 49

unfoldable pub are_marks : (count : ℕ) → List ℕ → Bool
are_marks count word = all is_mark word && eqb (length word) count

-- so many words from word `from` on are so many marks each
unfoldable pub are_rows : (line : List ℕ) → (from rows count : ℕ) → Bool
are_rows line from zero count = true
are_rows line from (suc rows) count = are_marks count (word_at from line) && are_rows line (suc from) rows count

-- 02, Ticket 13: "2 to 7"
abbrev pub has_count : ℕ → Bool
has_count count = leb 2 count && leb count 7

abbrev pub both_counts : (rows count : ℕ) → Bool
both_counts rows count = has_count rows && has_count count

-- the marks are as many as there are positions; where a number of positions is wrong, which the call refuses, they are not looked at
unfoldable pub table_fits : (line : List ℕ) → (rows count : ℕ) → Bool
table_fits line rows count = not (both_counts rows count) || (ends_at (5 + rows) line && are_rows line 5 rows count)

-- "bit 7i+j for positions i and j, from 0"
unfoldable pub marked_by : List ℕ → ℕ
marked_by [] = 0
marked_by (c ∷ word) = 2 * marked_by word + cond (eqb c 49) 1 0

unfoldable pub rows_marked : (line : List ℕ) → (from rows : ℕ) → ℕ
rows_marked line from zero = 0
rows_marked line from (suc rows) = 128 * rows_marked line (suc from) rows + marked_by (word_at from line)

unfoldable pub pairs_in : (line : List ℕ) → (rows count : ℕ) → ℕ
pairs_in line rows count = cond (both_counts rows count) (rows_marked line 5 rows) 0
