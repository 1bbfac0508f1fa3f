-- A clause's number: its digits read base 3, the first symbol's the highest, 0 for +, 1 for −, 2 for a symbol that is left out. In
-- this order `clauses n` lists them. There are 3 ^ n over n symbols, the empty one included.
use Rattle.std.specs.Prelude.{true, false, cond, List, [], ◌∷◌, ℕ, zero, suc, ◌+◌, ◌-◌, ◌*◌, ◌^◌, length, ltb}
use Rattle.meaning.specs.Clauses.{Digit, denies, out, plus, minus}

-- a digit at the weight w
abbrev pub weigh : Digit → ℕ → ℕ
weigh (denies false) w = 0
weigh (denies true) w = w
weigh out w = 2 * w

abbrev pub number : List Digit → ℕ
number [] = 0
number (d ∷ v) = weigh d (3 ^ length v) + number v

-- the digit at the weight w of a number below 3 * w
abbrev pub digit_at : ℕ → ℕ → Digit
digit_at c w = cond (ltb c w) plus (cond (ltb c (2 * w)) minus out)

-- the clause over n symbols that has the number c
abbrev pub clause_at : ℕ → ℕ → List Digit
clause_at zero c = []
clause_at (suc n) c = digit_at c (3 ^ n) ∷ clause_at n (c - weigh (digit_at c (3 ^ n)) (3 ^ n))
