-- What the bytes of a formula say: the formula and how many bytes it takes, or the first fault met and its place. Places count from
-- the front of the bytes that are parsed.
use Rattle.std.specs.Prelude.{ℕ, zero, suc, ◌+◌, cond, ◌&&◌, List, [], ◌∷◌, length, drop, leb, eqb}
use Rattle.meaning.specs.Formulae.{Formula, symbol, neg}
use Rattle.literals.specs.declared.refusal.Refusal.{Refusal}
use Rattle.literals.specs.declared.refusal.Refusal.TheVariants.{BadLiteral, CutShort, UnknownKind, TooDeep, BytesLeftOver}
use Rattle.formula.specs.Kinds.{kind_of, joined}
use Rattle.formula.specs.declared.reading.Join.{Join}
use Rattle.formula.specs.declared.reading.Kind.{Kind}
use Rattle.formula.specs.declared.reading.Kind.TheVariants.{Symbol, Not, Two, Unknown}

pub data Parsed : Type 0 where
  good : Formula → (used : ℕ) → Parsed
  bad : Refusal → (at : ℕ) → Parsed

-- "An operand may stand at depth 16 and no deeper."
abbrev pub levels : ℕ
levels = 16

-- what the bytes from `skipped` on gave, as the whole's answer, with `wrap` round the formula
abbrev pub after : ℕ → (Formula → Formula) → Parsed → Parsed
after skipped wrap (good f used) = good (wrap f) (skipped + used)
after skipped wrap (bad why at) = bad why (skipped + at)

-- a symbol's number, the byte after its kind: 3 where it is missing, then 2 where it is not one of 1 to S
unfoldable pub symbol_at : ℕ → List ℕ → Parsed
symbol_at S [] = bad CutShort 1
symbol_at S (s ∷ rest) = cond (leb 1 s && leb s S) (good (symbol s) 2) (bad BadLiteral 1)

-- the second operand, from where the first one ends
unfoldable pub second_of : (List ℕ → Parsed) → Join → List ℕ → Parsed → Parsed
second_of operand join body (good f used) = after (1 + used) (joined join f) (operand (drop used body))
second_of operand join body (bad why at) = bad why (1 + at)

-- what follows a kind byte; `operand` reads one operand, a level deeper
unfoldable pub body_of : ℕ → (List ℕ → Parsed) → Kind → List ℕ → Parsed
body_of S operand Symbol body = symbol_at S body
body_of S operand Not body = after 1 neg (operand body)
body_of S operand (Two join) body = second_of operand join body (operand body)
body_of S operand Unknown body = bad UnknownKind 0

-- one formula from the front of the bytes, with so many levels left for it and its operands.
-- "Where an operand is due the tests run 5, 3, 4, then 3 for the body, then 2; the first fault met is the answer."
unfoldable pub parse : (S depth : ℕ) → List ℕ → Parsed
parse S zero bytes = bad TooDeep 0
parse S (suc depth) [] = bad CutShort 0
parse S (suc depth) (kind ∷ body) = body_of S (λ l. parse S depth l) (kind_of kind) body

-- the whole bytes as one formula; 6 where "bytes follow the complete formula", at the first of them
abbrev pub ended : ℕ → Parsed → Parsed
ended count (good f used) = cond (eqb used count) (good f used) (bad BytesLeftOver used)
ended count (bad why at) = bad why at

unfoldable pub whole_of : ℕ → List ℕ → Parsed
whole_of S bytes = ended (length bytes) (parse S levels bytes)
