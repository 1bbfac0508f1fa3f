-- The desk's request: "In a rule each name is replaced in place by its number with leading zeros, so every place that is told is a column of the line
-- as typed."
use Rattle.std.specs.Prelude.{ℕ, zero, suc, ◌+◌, ◌/◌, ◌%◌, cond, List, [], ◌∷◌, ◌++◌, length}
use Rattle.names.specs.Names.{in_name, is_known, symbol_named}

-- the last n digits of a number, zeros before them
unfoldable pub numeral : (n number : ℕ) → List ℕ
numeral zero number = []
numeral (suc n) number = numeral n (number / 10) ++ ((48 + number % 10) ∷ [])

-- a run of a name's bytes: the number, if it is a symbol's name
unfoldable pub renamed : (names word : List ℕ) → List ℕ
renamed names word = cond (is_known names word) (numeral (length word) (symbol_named names word)) word

-- each run of a text; `word` has what was read of the first
unfoldable pub replaced_from : (names word : List ℕ) → List ℕ → List ℕ
replaced_from names word [] = renamed names word
replaced_from names word (c ∷ rest) =
    cond (in_name c) (replaced_from names (word ++ (c ∷ [])) rest) (renamed names word ++ (c ∷ replaced_from names [] rest))

abbrev pub replaced : (names : List ℕ) → List ℕ → List ℕ
replaced names text = replaced_from names [] text
