-- What is shown of a line: its bytes in hex, as many of them as fit, and what breaks the form.
use Rattle.std.specs.Prelude.{ℕ, suc, ◌+◌, ◌-◌, ◌/◌, ◌%◌, Bool, cond, List, [], ◌∷◌, leb, ltb}
use Rattle.formula.specs.Answers.{extent, read_of}
use Rattle.chains.specs.Form.{chain_at, most_open}

-- a hex digit, in small letters
abbrev pub hex_digit : ℕ → ℕ
hex_digit n = cond (ltb n 10) (48 + n) (97 + (n - 10))

-- bytes as two hex digits each, a blank before each
unfoldable pub hex_spaced : List ℕ → List ℕ
hex_spaced [] = []
hex_spaced (b ∷ rest) = 32 ∷ hex_digit (b / 16) ∷ hex_digit (b % 16) ∷ hex_spaced rest

-- how many bytes are shown where one is at fault: all where they fit on a screen of 80 columns, else those up to the one at fault
abbrev pub shown_of : (count place : ℕ) → ℕ
shown_of count place = cond (leb count 26) count (place + 1)

-- the text is refused at a seventeenth open bracket: where seventeen may be open, a chain goes past the place
abbrev pub too_many_open : (text : List ℕ) → (place : ℕ) → Bool
too_many_open text place = ltb place (extent (read_of (chain_at (suc most_open) text)))
