-- The words of a line: runs of bytes that are no blanks, counted from 0.
use Rattle.std.specs.Prelude.{ℕ, zero, suc, Bool, not, List, eqb, length}
use Rattle.dimacs.specs.Words.{since, up_to}

-- 01: "Spaces are the only blanks"
abbrev pub is_blank : ℕ → Bool
is_blank c = eqb c 32

abbrev pub in_word : ℕ → Bool
in_word c = not (eqb c 32)

-- the line from a word on; nothing where there are fewer words
unfoldable pub rest_at : ℕ → List ℕ → List ℕ
rest_at zero line = since in_word line
rest_at (suc k) line = since in_word (since is_blank (rest_at k line))

-- a word; nothing where there are fewer
unfoldable pub word_at : ℕ → List ℕ → List ℕ
word_at k line = up_to is_blank (rest_at k line)

-- there is no word of this number
unfoldable pub ends_at : ℕ → List ℕ → Bool
ends_at k line = eqb (length (rest_at k line)) 0
