-- How the bytes of a text are written: a chain grouped from the left is one kind for each join, and then its units. Contracts of internal functions
-- name these; that they are the bytes of the formula which the text says is a law (`Chain-same` in `proofs/Same`).
use Rattle.std.specs.Prelude.{ℕ, zero, suc, ◌+◌, ◌*◌, ◌-◌, cond, List, [], ◌∷◌, ◌++◌, length, take, drop, get_or, replicate, eqb}
use Rattle.formula.specs.Parse.{Parsed, good, bad}
use Rattle.formula.specs.Bytes.{number_byte}
use Rattle.chains.specs.Signs.{start_of, goes_on}
use Rattle.chains.specs.Form.{lead, unit_at}
use Rattle.chains.specs.declared.signs.Class.TheVariants.{Denial, Number}
use Rattle.chains.specs.declared.signs.Start.{Start}
use Rattle.chains.specs.declared.signs.Start.TheVariants.{Digits, Bracket, Neither}

-- how many minus signs there are
unfoldable pub minuses_of : List ℕ → ℕ
minuses_of [] = 0
minuses_of (c ∷ rest) = cond (eqb c 45) (suc (minuses_of rest)) (minuses_of rest)

-- the number that digits spell, behind those of `sum`: 255 once it is more
unfoldable pub capped : ℕ → List ℕ → ℕ
capped sum [] = sum
capped sum (c ∷ rest) = capped (number_byte (sum * 10 + (c - 48))) rest

-- the kind byte of a mark
abbrev pub kind_for : ℕ → ℕ
kind_for c = cond (eqb c 38) 0x12 (cond (eqb c 124) 0x13 (cond (eqb c 62) 0x14 0x15))

-- the texts at which a chain's units start
unfoldable pub start_mark : (ℕ → List ℕ → List (List ℕ)) → ℕ → List ℕ → List (List ℕ)
start_mark next join [] = []
start_mark next join (c ∷ rest) = cond (goes_on join c) (next c rest) []

unfoldable pub start_on : (ℕ → List ℕ → List (List ℕ)) → ℕ → List ℕ → Parsed → List (List ℕ)
start_on next join text (good f used) = start_mark next join (drop used text)
start_on next join text (bad why at) = []

unfoldable pub starts : (List ℕ → Parsed) → (most join : ℕ) → List ℕ → List (List ℕ)
starts unit zero join text = []
starts unit (suc most) join text = text ∷ start_on (λ c rest. starts unit most c rest) join text (unit text)

abbrev pub starts_at : ℕ → (join : ℕ) → List ℕ → List (List ℕ)
starts_at b join text = starts (λ l. unit_at b l) (suc (length text)) join text

-- how many joins a chain has
abbrev pub joins_at : ℕ → List ℕ → ℕ
joins_at b text = length (starts_at b 0 text) - 1

-- the mark after its first unit, 0 where there is none
abbrev pub mark_on : List ℕ → Parsed → ℕ
mark_on text (good f used) = get_or text used 0
mark_on text (bad why at) = 0

abbrev pub mark_at : ℕ → List ℕ → ℕ
mark_at b text = mark_on text (unit_at b text)

abbrev pub symbol_bytes : List ℕ → List ℕ
symbol_bytes body = 0x10 ∷ capped 0 (take (lead Number body) body) ∷ []

-- `bracket` says the bytes of a bracket
abbrev pub start_bytes : (List ℕ → List ℕ) → Start → List ℕ → List ℕ
start_bytes bracket Digits body = symbol_bytes body
start_bytes bracket Bracket body = bracket body
start_bytes bracket Neither body = []

-- the minus signs, then a number or a bracket
unfoldable pub unit_bytes_of : (List ℕ → List ℕ) → List ℕ → List ℕ
unit_bytes_of bracket text =
    replicate (minuses_of (take (lead Denial text) text)) 0x11
    ++ start_bytes bracket (start_of (drop (lead Denial text) text)) (drop (lead Denial text) text)

-- what several texts give, one after the other
unfoldable pub flat : (List ℕ → List ℕ) → List (List ℕ) → List ℕ
flat bytes [] = []
flat bytes (t ∷ ts) = bytes t ++ flat bytes ts

-- from a bracket's opening mark on, a chain: its kinds and its units
unfoldable pub bracket_bytes : ℕ → List ℕ → List ℕ
bracket_bytes zero text = []
bracket_bytes (suc b) text =
    replicate (joins_at b (drop 1 text)) (kind_for (mark_at b (drop 1 text)))
    ++ flat (λ l. unit_bytes_of (λ k. bracket_bytes b k) l) (starts_at b 0 (drop 1 text))

abbrev pub unit_bytes : ℕ → List ℕ → List ℕ
unit_bytes b text = unit_bytes_of (λ l. bracket_bytes b l) text

abbrev pub units_bytes : ℕ → List ℕ → List ℕ
units_bytes b text = flat (λ l. unit_bytes b l) (starts_at b 0 text)

abbrev pub chain_bytes : ℕ → List ℕ → List ℕ
chain_bytes b text = replicate (joins_at b text) (kind_for (mark_at b text)) ++ units_bytes b text
