-- The words of the lines, in ASCII.
use Rattle.std.specs.Prelude.{ℕ, List, [], ◌∷◌}

-- each with the space before it
abbrev pub open_word : List ℕ
open_word = 32 ∷ 111 ∷ 112 ∷ 101 ∷ 110 ∷ []

abbrev pub rule_word : List ℕ
rule_word = 32 ∷ 114 ∷ 117 ∷ 108 ∷ 101 ∷ []

abbrev pub hold_word : List ℕ
hold_word = 32 ∷ 104 ∷ 111 ∷ 108 ∷ 100 ∷ []

abbrev pub drop_word : List ℕ
drop_word = 32 ∷ 100 ∷ 114 ∷ 111 ∷ 112 ∷ []

abbrev pub ask_word : List ℕ
ask_word = 32 ∷ 97 ∷ 115 ∷ 107 ∷ []

abbrev pub why_word : List ℕ
why_word = 32 ∷ 119 ∷ 104 ∷ 121 ∷ []

abbrev pub kind_word : List ℕ
kind_word = 32 ∷ 107 ∷ 105 ∷ 110 ∷ 100 ∷ []

abbrev pub ok_word : List ℕ
ok_word = 32 ∷ 111 ∷ 107 ∷ []

abbrev pub no_word : List ℕ
no_word = 32 ∷ 110 ∷ 111 ∷ 32 ∷ []

abbrev pub at_word : List ℕ
at_word = 32 ∷ 97 ∷ 116 ∷ 32 ∷ []

abbrev pub rows_word : List ℕ
rows_word = 32 ∷ 114 ∷ 111 ∷ 119 ∷ 115 ∷ 32 ∷ []

abbrev pub stands_word : List ℕ
stands_word = 32 ∷ 115 ∷ 116 ∷ 97 ∷ 110 ∷ 100 ∷ 115 ∷ []

abbrev pub out_word : List ℕ
out_word = 32 ∷ 111 ∷ 117 ∷ 116 ∷ []

abbrev pub conflict_word : List ℕ
conflict_word = 32 ∷ 99 ∷ 111 ∷ 110 ∷ 102 ∷ 108 ∷ 105 ∷ 99 ∷ 116 ∷ []

abbrev pub rank_word : List ℕ
rank_word = 32 ∷ 114 ∷ 97 ∷ 110 ∷ 107 ∷ 32 ∷ []

abbrev pub row_word : List ℕ
row_word = 32 ∷ 114 ∷ 111 ∷ 119 ∷ 32 ∷ []

abbrev pub space : List ℕ
space = 32 ∷ []

abbrev pub colon : List ℕ
colon = 58 ∷ []

abbrev pub line_end : List ℕ
line_end = 10 ∷ []
