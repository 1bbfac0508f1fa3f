-- What the functions answer of what the bytes say.
use Rattle.std.specs.Prelude.{ℕ, zero, suc, ◌+◌, ◌-◌, ◌/◌, ◌%◌, ◌^◌, Bool, true, false, cond, List, [], ◌∷◌, ◌++◌, map, length, set, replicate, eqb}
use Rattle.std.specs.Prelude.{leb, Option, Some, None}
use Rattle.meaning.specs.Formulae.{Formula, symbol, neg, and, or, imp, same, value, symbols_of, look}
use Rattle.meaning.specs.Clauses.{assignments}
use Rattle.formula.specs.Parse.{Parsed, good, bad}
use Rattle.literals.specs.declared.refusal.Refusal.{Refusal}
use Rattle.formula.specs.declared.reading.Break.{Break}
use Rattle.std.specs.Prelude.{Result, Ok, Err}
use Rattle.formula.specs.declared.naming.Names.{Names}
use Rattle.formula.specs.declared.truth.Valued.{Valued}

-- ---- reading

-- the answer where a formula breaks
abbrev pub broken : Refusal → (place : ℕ) → Result ℕ Break
broken why place = Err (record { why = why; place = place })

abbrev pub read_of : Parsed → Result ℕ Break
read_of (good f used) = Ok used
read_of (bad why at) = broken why at

-- an answer whose part starts `skipped` bytes into the whole
abbrev pub past : ℕ → Result ℕ Break → Result ℕ Break
past skipped (Ok count) = Ok (skipped + count)
past skipped (Err b) = broken b.why (skipped + b.place)

-- how many bytes an answer looks back on
abbrev pub extent : Result ℕ Break → ℕ
extent (Ok count) = count
extent (Err b) = b.place

abbrev pub is_good : Parsed → Bool
is_good (good f used) = true
is_good (bad why at) = false

-- the formula (asked only of what is one)
abbrev pub formula_of : Parsed → Formula
formula_of (good f used) = f
formula_of (bad why at) = symbol 0

-- how many bytes a good formula takes
abbrev pub used_of : Parsed → ℕ
used_of (good f used) = used
used_of (bad why at) = 0

-- ---- the symbols

-- eight places: the names, and zeros after them
unfoldable pub padded : List ℕ → List ℕ
padded l = l ++ replicate (8 - length l) 0

-- up to eight names are listed; more are too many
unfoldable pub named : List ℕ → Option Names
named l = cond (leb (length l) 8) (Some (record { list = padded l; count = length l })) None

-- the different symbols of what was parsed, rising
unfoldable pub names_of : ℕ → Parsed → Option Names
names_of S (good f used) = named (symbols_of S f)
names_of S (bad why at) = named []

-- how marking goes: a symbol's place is set
unfoldable pub marked : Formula → List Bool → List Bool
marked (symbol s) marks = set marks s true
marked (neg f) marks = marked f marks
marked (and f g) marks = marked g (marked f marks)
marked (or f g) marks = marked g (marked f marks)
marked (imp f g) marks = marked g (marked f marks)
marked (same f g) marks = marked g (marked f marks)

abbrev pub marks_of : Parsed → List Bool → List Bool
marks_of (good f used) marks = marked f marks
marks_of (bad why at) marks = marks

-- ---- the value under an assignment

-- the bit at a place of a number, the lowest at place 0
unfoldable pub bit_at : ℕ → ℕ → Bool
bit_at number at = eqb (number / 2 ^ at % 2) 1

-- "an assignment is a number below 256, one bit a symbol": the assignment to n symbols that a number stands for, the first
-- symbol's bit the highest
unfoldable pub bits : (n number : ℕ) → List Bool
bits zero number = []
bits (suc n) number = bit_at number n ∷ bits n number

-- the value of a formula that was parsed
abbrev pub holds_of : (ℕ → Bool) → Parsed → Bool
holds_of e (good f used) = value e f
holds_of e (bad why at) = false

-- the value, and the bytes that the formula takes
abbrev pub valued_of : (ℕ → Bool) → Parsed → Valued
valued_of e p = record { holds = holds_of e p; used = used_of p }

-- the truth table: the value under each assignment to the names, in the order of the assignments' numbers
unfoldable pub truth_of : List ℕ → Parsed → List Bool
truth_of names p = map (λ (a : List Bool). holds_of (look names a) p) (assignments (length names))
