-- What a text says: the formula, and how many bytes of the text it takes; or refusal 15 with its place, "the first byte that no text of the form can
-- have there, or the length of a text cut short". Places count from the front of the bytes that are read. That the place is that one is promised
-- (`FirstOffence` in `Promises`).
use Rattle.std.specs.Prelude.{ℕ, zero, suc, ◌+◌, cond, List, [], ◌∷◌, length, take, drop, eqb}
use Rattle.meaning.specs.Formulae.{Formula, symbol, neg}
use Rattle.literals.specs.declared.refusal.Refusal.TheVariants.{BadText}
use Rattle.formula.specs.Parse.{Parsed, good, bad, after}
use Rattle.spelling.specs.Text.{decimal}
use Rattle.chains.specs.Signs.{belongs, start_of, goes_on, joined_by}
use Rattle.chains.specs.declared.signs.Class.{Class}
use Rattle.chains.specs.declared.signs.Class.TheVariants.{Blank, Number}
use Rattle.chains.specs.declared.signs.Start.{Start}
use Rattle.chains.specs.declared.signs.Start.TheVariants.{Digits, Bracket, Neither}

-- how many bytes of the class stand at the front
unfoldable pub lead : Class → List ℕ → ℕ
lead class [] = 0
lead class (c ∷ rest) = cond (belongs class c) (suc (lead class rest)) 0

-- ---- "a unit is a decimal symbol number, `-` and a unit, or a chain in round brackets"

-- a number ends with its digits, and spaces may follow
abbrev pub number_end : List ℕ → ℕ
number_end text = lead Number text + lead Blank (drop (lead Number text) text)

abbrev pub number_at : List ℕ → Parsed
number_at text = good (symbol (decimal 0 (take (lead Number text) text))) (number_end text)

-- `bracket` reads a chain in round brackets
abbrev pub by_start : (bracket : List ℕ → Parsed) → Start → List ℕ → Parsed
by_start bracket Digits text = number_at text
by_start bracket Bracket text = bracket text
by_start bracket Neither text = bad BadText 0

unfoldable pub unit_of : (bracket : List ℕ → Parsed) → List ℕ → Parsed
unit_of bracket [] = bad BadText 0
unit_of bracket (c ∷ rest) =
    cond (eqb c 32) (after 1 (λ f. f) (unit_of bracket rest))
    (cond (eqb c 45) (after 1 neg (unit_of bracket rest)) (by_start bracket (start_of (c ∷ rest)) (c ∷ rest)))

-- ---- a chain: a unit, and then units as long as a mark joins one. `unit` reads a unit

-- past a unit, at `used`: the end, a mark that goes on, or another byte
unfoldable pub from_mark : (next : ℕ → Formula → List ℕ → Parsed) → (join : ℕ) → Formula → (used : ℕ) → List ℕ → Parsed
from_mark next join f used [] = good f used
from_mark next join f used (c ∷ rest) = cond (goes_on join c) (after (used + 1) (λ g. g) (next c f rest)) (good f used)

unfoldable pub go_on : (next : ℕ → Formula → List ℕ → Parsed) → (join : ℕ) → (Formula → Formula) → List ℕ → Parsed → Parsed
go_on next join wrap text (good f used) = from_mark next join (wrap f) used (drop used text)
go_on next join wrap text (bad why at) = bad why at

-- units from here on, the first of them joined by `wrap` to what stands before: "grouped from the left". So many at the most
unfoldable pub more : (unit : List ℕ → Parsed) → (most join : ℕ) → (Formula → Formula) → List ℕ → Parsed
more unit zero join wrap text = bad BadText 0
more unit (suc most) join wrap text = go_on (λ c f rest. more unit most c (joined_by c f) rest) join wrap text (unit text)

-- each join takes a byte, so that there are never more units than one more than the bytes
abbrev pub chain_of : (unit : List ℕ → Parsed) → List ℕ → Parsed
chain_of unit text = more unit (suc (length text)) 0 (λ f. f) text

-- ---- "so units and chains call for each other", with so many brackets left to open

-- past the chain in a bracket: the closing mark is due, and spaces may follow
unfoldable pub at_close : Formula → (used : ℕ) → List ℕ → Parsed
at_close f used [] = bad BadText used
at_close f used (c ∷ rest) = cond (eqb c 41) (good f (used + 1 + lead Blank rest)) (bad BadText used)

unfoldable pub closed : (inner : List ℕ) → Parsed → Parsed
closed inner (good f used) = at_close f used (drop used inner)
closed inner (bad why at) = bad why at

-- from a bracket's opening mark on; one too many is refused at that mark
unfoldable pub bracket_at : (brackets : ℕ) → List ℕ → Parsed
bracket_at zero text = bad BadText 0
bracket_at (suc b) text = after 1 (λ f. f) (closed (drop 1 text) (chain_of (λ l. unit_of (λ k. bracket_at b k) l) (drop 1 text)))

abbrev pub unit_at : (brackets : ℕ) → List ℕ → Parsed
unit_at b text = unit_of (λ l. bracket_at b l) text

abbrev pub chain_at : (brackets : ℕ) → List ℕ → Parsed
chain_at b text = chain_of (λ l. unit_at b l) text

-- ---- "The whole text is a chain"

-- "at most 16 brackets may be open at once"
abbrev pub most_open : ℕ
most_open = 16

-- nothing may follow the chain
abbrev pub alone : (count : ℕ) → Parsed → Parsed
alone count (good f used) = cond (eqb used count) (good f used) (bad BadText used)
alone count (bad why at) = bad why at

unfoldable pub whole_text : List ℕ → Parsed
whole_text text = alone (length text) (chain_at most_open text)
