-- 02, Ticket 10: "Each set is a 16-bit number whose bit i stands for candidate i". The sets of n candidates are the numbers below 2 ^ n. Ticket 12
-- has "the spelling of Ticket 10".
use Rattle.std.specs.Prelude.{Bool, true, cond, ◌&&◌, List, [], ◌∷◌, ℕ, zero, suc, ◌+◌, ◌*◌, ◌/◌, ◌%◌, ◌^◌, leb, set}
use Rattle.meaning.specs.Tests.{from, odd}
use Rattle.meaning.specs.BySize.{below_size}

-- the candidates that the set has: the first, where the lowest bit is set
abbrev pub chosen : {A : Type 0} → List A → ℕ → List A
chosen [] m = []
chosen (c ∷ cands) m = cond (odd m) (c ∷ chosen cands (m / 2)) (chosen cands (m / 2))

-- flags with those at some places set to one value
abbrev pub set_each : Bool → List Bool → List ℕ → List Bool
set_each to flags [] = flags
set_each to flags (p ∷ places) = set_each to (set flags p to) places

-- how many of n candidates it has
abbrev pub size : ℕ → ℕ → ℕ
size zero m = 0
size (suc n) m = m % 2 + size n (m / 2)

-- a is inside b: no bit of the lowest n is set in a and not in b
abbrev pub inside : ℕ → ℕ → ℕ → Bool
inside zero a b = true
inside (suc n) a b = leb (a % 2) (b % 2) && inside n (a / 2) (b / 2)

-- all sets of n candidates, by number
abbrev pub sets_of : ℕ → List ℕ
sets_of n = from 0 (2 ^ n)

-- those that pass a test: "order by size, then by number, each once"
abbrev pub sets_by_size : ℕ → (ℕ → Bool) → List ℕ
sets_by_size n test = below_size (size n) test (sets_of n) (suc n)

-- the set of the candidates that pass a test
abbrev pub passing : (ℕ → Bool) → List ℕ → ℕ
passing test [] = 0
passing test (c ∷ cands) = cond (test c) 1 0 + 2 * passing test cands
