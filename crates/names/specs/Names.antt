-- The desk's request: "Names: three characters or more, letters, digits and `_`, beginning with a letter." At most 24, and one for each of 200
-- symbols.
use Rattle.std.specs.Prelude.{ℕ, suc, Bool, cond, ◌&&◌, ◌||◌, List, [], ◌∷◌, eqb, leb, length, get_or, Option, None}
use Rattle.std.specs.Option.{is_some, unwrap_or}
use Rattle.meaning.specs.Tests.{none}
use Rattle.spelling.specs.Text.{is_digit}
use Rattle.names.specs.Slots.{slot_of}

abbrev pub is_letter : ℕ → Bool
is_letter c = (leb 65 c && leb c 90) || (leb 97 c && leb c 122)

abbrev pub in_name : ℕ → Bool
in_name c = is_letter c || eqb c 95 || is_digit c

-- how many bytes of a name stand at the front
unfoldable pub run : List ℕ → ℕ
run [] = 0
run (c ∷ rest) = cond (in_name c) (suc (run rest)) 0

unfoldable pub is_name : List ℕ → Bool
is_name word = leb 3 (length word) && leb (length word) 24 && is_letter (get_or word 0 0) && eqb (run word) (length word)

-- ---- the table: a slot of 24 bytes for each of 200 symbols

abbrev pub most_named : ℕ
most_named = 200

abbrev pub table_length : ℕ
table_length = 4800

-- the slot of a word, from 0, if it is a symbol's name
unfoldable pub name_slot : (names word : List ℕ) → Option ℕ
name_slot names word = cond (is_name word) (slot_of 24 most_named names word) None

abbrev pub is_known : (names word : List ℕ) → Bool
is_known names word = is_some (name_slot names word)

-- the symbol whose name it is (asked only of a name that is known)
abbrev pub symbol_named : (names word : List ℕ) → ℕ
symbol_named names word = suc (unwrap_or (name_slot names word) none)
