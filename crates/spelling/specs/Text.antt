-- Numbers, literals and words as bytes; and the number that digits spell.
use Rattle.std.specs.Prelude.{ℕ, zero, suc, ◌+◌, ◌*◌, ◌-◌, ◌/◌, ◌%◌, ◌≡◌, Bool, cond, ◌&&◌, ◌||◌, List, [], ◌∷◌, ◌++◌, leb, ltb, ℤ, pos, negsuc, length}
use Rattle.std.proofs.lemmas.List.Edits.{sets}

-- n in decimal: the digits of n / 10, where there are any, and then the last digit. `steps` bounds the digits; n + 1 is always enough
unfoldable pub digits_of : (steps n : ℕ) → List ℕ
digits_of zero n = []
digits_of (suc steps) n = cond (ltb n 10) ((48 + n) ∷ []) (digits_of steps (n / 10) ++ ((48 + n % 10) ∷ []))

abbrev pub natural : ℕ → List ℕ
natural n = digits_of (suc n) n

-- the other way round: "A number is digits, leading zeros taken." The value of digits, behind those of `sum`
abbrev pub is_digit : ℕ → Bool
is_digit c = leb 48 c && leb c 57

unfoldable pub decimal : (sum : ℕ) → List ℕ → ℕ
decimal sum [] = sum
decimal sum (c ∷ rest) = decimal (sum * 10 + (c - 48)) rest

-- a literal in decimal, with `-` before that of a negative one
abbrev pub literal : ℤ → List ℕ
literal (pos n) = natural n
literal (negsuc k) = 45 ∷ natural (suc k)

-- literals, a space before each
unfoldable pub literal_list : List ℤ → List ℕ
literal_list [] = []
literal_list (l ∷ ls) = 32 ∷ (literal l ++ literal_list ls)

-- literals, a mark before each
unfoldable pub marked : (mark : ℕ) → List ℤ → List ℕ
marked mark [] = []
marked mark (l ∷ ls) = mark ∷ (literal l ++ marked mark ls)

-- a byte as it is, or `?` where it does not print
abbrev pub shown : ℕ → ℕ
shown c = cond (ltb c 32 || ltb 126 c) 63 c

-- `piece` stands in a buffer from place `at` on, the rest of the buffer is as it was, and `next` is the place after it
pub record Put (before after : List ℕ) (at : ℕ) (piece : List ℕ) (next : ℕ) : Type 0 where
  pub written : after ≡ sets before at piece
  pub ends : next ≡ at + length piece
