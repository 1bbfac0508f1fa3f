-- What a word says, as the desk's request has it: "A number is digits, leading zeros taken"; a symbol is a number or a name; a literal a symbol, or
-- `-` and a symbol.
use Rattle.std.specs.Prelude.{ℕ, zero, suc, ◌≤◌, min, Bool, cond, ◌&&◌, List, [], ◌∷◌, eqb, ltb, ℤ, pos, negsuc, length, Result, Ok, Err}
use Rattle.meaning.specs.Tests.{all}
use Rattle.spelling.specs.Text.{decimal, is_digit}
use Rattle.names.specs.Names.{is_name, is_known, symbol_named}
use Rattle.orders.specs.declared.Slip.{Slip}
use Rattle.orders.specs.declared.Slip.TheVariants.{NumberDue, SymbolDue, UnknownName}

unfoldable pub is_number : List ℕ → Bool
is_number word = all is_digit word && ltb 0 (length word)

-- whatever is above 32,767 counts as 32,767, which is no symbol of any board
abbrev pub most : ℕ
most = 32767

unfoldable pub value_of : List ℕ → ℕ
value_of word = min (decimal 0 word) most

unfoldable pub number_in : List ℕ → Result ℕ Slip
number_in word = cond (is_number word) (Ok (value_of word)) (Err NumberDue)

abbrev pub named_in : (names word : List ℕ) → Result ℕ Slip
named_in names word = cond (is_known names word) (Ok (symbol_named names word)) (Err UnknownName)

unfoldable pub symbol_in : (names word : List ℕ) → Result ℕ Slip
symbol_in names word = cond (is_number word) (Ok (value_of word)) (cond (is_name word) (named_in names word) (Err SymbolDue))

-- ---- literals

-- a symbol's number that has a literal
abbrev pub Narrow : Result ℕ Slip → Type 0
Narrow (Ok n) = n ≤ most
Narrow (Err slip) = Unit {0}

abbrev pub opposite : ℕ → ℤ
opposite zero = pos 0
opposite (suc k) = negsuc k

abbrev pub affirmed : Result ℕ Slip → Result ℤ Slip
affirmed (Ok n) = Ok (pos n)
affirmed (Err slip) = Err slip

abbrev pub denied : Result ℕ Slip → Result ℤ Slip
denied (Ok n) = Ok (opposite n)
denied (Err slip) = Err slip

unfoldable pub literal_in : (names word : List ℕ) → Result ℤ Slip
literal_in names [] = Err SymbolDue
literal_in names (c ∷ rest) = cond (eqb c 45) (denied (symbol_in names rest)) (affirmed (symbol_in names (c ∷ rest)))
