-- 01, "Text, where a ticket takes it": a text as words between blanks and line ends, and the number that a word spells.
use Rattle.std.specs.Prelude.{ℕ, zero, suc, min, Bool, cond, not, ◌||◌, List, [], ◌∷◌, ◌++◌, eqb, ℤ, pos, negsuc}
use Rattle.meaning.specs.Tests.{all}
use Rattle.spelling.specs.Text.{is_digit, decimal}

-- "Spaces are the only blanks, line feeds the only line ends."
abbrev pub ends : ℕ → Bool
ends c = eqb c 10

abbrev pub is_gap : ℕ → Bool
is_gap c = eqb c 32 || eqb c 10

abbrev pub in_word : ℕ → Bool
in_word c = not (is_gap c)

-- the bytes before the first that passes the test, and the bytes from it on
unfoldable pub up_to : (ℕ → Bool) → List ℕ → List ℕ
up_to test [] = []
up_to test (c ∷ rest) = cond (test c) [] (c ∷ up_to test rest)

unfoldable pub since : (ℕ → Bool) → List ℕ → List ℕ
since test [] = []
since test (c ∷ rest) = cond (test c) (c ∷ rest) (since test rest)

-- the words of a text, "over blanks and line ends"; `word` has what was read of the first. No word is empty
abbrev pub closed : List ℕ → List (List ℕ) → List (List ℕ)
closed [] others = others
closed (c ∷ cs) others = (c ∷ cs) ∷ others

unfoldable pub words_in : (word : List ℕ) → List ℕ → List (List ℕ)
words_in word [] = closed word []
words_in word (c ∷ rest) = cond (is_gap c) (closed word (words_in [] rest)) (words_in (word ++ (c ∷ [])) rest)

abbrev pub words : List ℕ → List (List ℕ)
words text = words_in [] text

-- ---- numbers

-- "a number above 32,767 breaks the form": whatever breaks it counts as 32,768, which no header's variables reach
abbrev pub beyond : ℕ
beyond = 32768

-- "A number is digits, leading zeros taken." (Of no digits it is 0: no word is empty, and `-` alone is as `-0`.)
unfoldable pub number_of : List ℕ → ℕ
number_of word = cond (all is_digit word) (min (decimal 0 word) beyond) beyond

-- "`-` stands only right before the digits of a literal, which is never 0"
abbrev pub denied : ℕ → ℤ
denied zero = pos beyond
denied (suc k) = negsuc k

-- a word as a literal, or as the 0 after a clause
unfoldable pub literal_of : List ℕ → ℤ
literal_of [] = pos 0
literal_of (c ∷ rest) = cond (eqb c 45) (denied (number_of rest)) (pos (number_of (c ∷ rest)))
