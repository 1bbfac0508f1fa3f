-- The definitions at a small table: each computes.
use Rattle.meaning.proofs.Kit.{◌≡◌, refl, true, List, [], ◌∷◌, ℤ, pos, negsuc, replicate}
use Rattle.literals.specs.Literal.{place_of}
use Rattle.literals.specs.Row.{numbers_at, rule_at, rule_before, zeros, rising, row_sound, rule_sound, rows_sound}
use Rattle.index.specs.Index.{empty, holds, next_cell, heads_of, links_of}

-- three rows over two symbols, of rules 1, 2 and 2: 1 2; −1 2; −2. So the literal 2 stands in two of them
table : List ℤ
table =
    pos 1 ∷ pos 2 ∷ pos 0 ∷ pos 0 ∷ pos 0 ∷ pos 0 ∷ pos 0 ∷ pos 0 ∷ pos 1
    ∷ negsuc 0 ∷ pos 2 ∷ pos 0 ∷ pos 0 ∷ pos 0 ∷ pos 0 ∷ pos 0 ∷ pos 0 ∷ pos 2
    ∷ negsuc 1 ∷ pos 0 ∷ pos 0 ∷ pos 0 ∷ pos 0 ∷ pos 0 ∷ pos 0 ∷ pos 0 ∷ pos 2 ∷ []

table_is_sound : rows_sound 2 2 3 table ≡ true
unfolding table rows_sound numbers_at row_sound rising zeros rule_sound rule_at rule_before
table_is_sound = refl

-- the lists of 1, −1, 2 and −2 start at cells 0, 8, 1 and 16: the rules' numbers stand in none
heads : heads_of 4 3 table ≡ 0 ∷ 8 ∷ 1 ∷ 16 ∷ []
unfolding table heads_of next_cell holds empty place_of
heads = refl

-- with two rows in use −2 stands nowhere
heads_of_two : heads_of 4 2 table ≡ 0 ∷ 8 ∷ 1 ∷ 65535 ∷ []
unfolding table heads_of next_cell holds empty place_of
heads_of_two = refl

-- from cell 1 the list of 2 goes on to cell 9; the other cells that hold a literal are the last of their lists, and the empty ones keep their 7
links : links_of 3 table (replicate 24 7)
    ≡ 65535 ∷ 9 ∷ 7 ∷ 7 ∷ 7 ∷ 7 ∷ 7 ∷ 7 ∷ 65535 ∷ 65535 ∷ 7 ∷ 7 ∷ 7 ∷ 7 ∷ 7 ∷ 7 ∷ 65535 ∷ 7 ∷ 7 ∷ 7 ∷ 7 ∷ 7 ∷ 7 ∷ 7 ∷ []
unfolding table links_of next_cell holds empty place_of
links = refl
