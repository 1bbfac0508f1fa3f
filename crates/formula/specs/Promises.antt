-- 02, Ticket 1, "Say where the formula breaks": "where the operand was due for 4 and 5, of the symbol's number for 2, of the missing byte
-- for 3, of the first byte too many for 6". `proofs/` has a proof of each promise, under the same name in small letters.
use Rattle.std.specs.Prelude.{◌≡◌, ◌≢◌, ◌↔◌, false, cond, ◌&&◌, List, ◌++◌, ℕ, suc, ◌-◌, ◌≤◌, ◌<◌, leb, eqb, length, take, get_or}
use Rattle.meaning.specs.Formulae.{Formula}
use Rattle.literals.specs.Refusals.{number_of}
use Rattle.literals.specs.declared.refusal.Refusal.{Refusal}
use Rattle.literals.specs.declared.refusal.Refusal.TheVariants.{BadLiteral, CutShort, UnknownKind, TooDeep, BytesLeftOver}
use Rattle.formula.specs.Kinds.{kind_of}
use Rattle.formula.specs.Parse.{good, bad, levels, parse, whole_of}
use Rattle.formula.specs.declared.reading.Kind.{Kind}
use Rattle.formula.specs.declared.reading.Kind.TheVariants.{Symbol, Not, Two, Unknown}

-- how many operands a kind has
abbrev pub operands : Kind → ℕ
operands Symbol = 0
operands Not = 1
operands (Two join) = 2
operands Unknown = 0

-- what is at the place, refusal by refusal
pub data Found (S : ℕ) (bytes : List ℕ) (at : ℕ) : Refusal → Type 0 where
  -- 2: after a symbol's kind, a byte that is none of 1 to S
  number : 1 ≤ at → at < length bytes → kind_of (get_or bytes (at - 1) 0) ≡ Symbol → leb 1 (get_or bytes at 0) && leb (get_or bytes at 0) S ≡ false
      → Found S bytes at BadLiteral
  -- 3: the end of the bytes
  end : at ≡ length bytes → Found S bytes at CutShort
  -- 4: a byte that is no kind
  kind : at < length bytes → kind_of (get_or bytes at 0) ≡ Unknown → Found S bytes at UnknownKind
  -- 5: after a kind that has operands, a byte or the end of the bytes
  operand : 1 ≤ at → at ≤ length bytes → 1 ≤ operands (kind_of (get_or bytes (at - 1) 0)) → Found S bytes at TooDeep
  -- 6: a byte
  more : at < length bytes → Found S bytes at BytesLeftOver

-- the bytes are one formula, with so many levels for it and its operands
abbrev pub Spells : (S depth : ℕ) → List ℕ → Formula → Type 0
Spells S depth bytes f = parse S depth bytes ≡ good f (length bytes)

-- the bytes are the front of one: with some bytes after them, or none, they are a formula
abbrev pub IsFront : (S depth : ℕ) → List ℕ → Type 0
IsFront S depth front = (rest : List ℕ) × (f : Formula) × Spells S depth (front ++ rest) f

-- so many bytes show the fault: those before the place and the byte there; but for 5, which is tested before that byte, those before it
abbrev pub bytes_to : Refusal → ℕ → ℕ
bytes_to why at = cond (eqb (number_of why) 5) at (suc at)

pub record Breaks (S : ℕ) (bytes : List ℕ) (why : Refusal) (at : ℕ) : Type 0 where
  -- the place is inside the bytes or right at their end
  pub within : at ≤ length bytes
  pub found : Found S bytes at why
  -- fewer bytes than those are the front of some formula; those, or more, are the front of none
  pub fronts : (n : ℕ) → n ≤ length bytes → IsFront S levels (take n bytes) ↔ (n < bytes_to why at)
  -- whatever follows those, the refusal and its place are the same (but for 3, where a byte is missing)
  pub again : why ≢ CutShort → (rest : List ℕ) → whole_of S (take (bytes_to why at) bytes ++ rest) ≡ bad why at
  -- 5: with one level more, the bytes before the place are the front of a formula
  pub deeper : why ≡ TooDeep → IsFront S (suc levels) (take at bytes)
  -- 6: they are a whole one
  pub whole : why ≡ BytesLeftOver → (f : Formula) × Spells S levels (take at bytes) f

-- "the first fault met is the answer": the formula breaks at the place told, and not before
abbrev pub FirstFault : Type 0
FirstFault = (S : ℕ) (bytes : List ℕ) (why : Refusal) (at : ℕ) → 1 ≤ S → whole_of S bytes ≡ bad why at → Breaks S bytes why at

-- "An operand may stand at depth 16 and no deeper": so no formula has more than 98,303 bytes
abbrev pub MostBytes : Type 0
MostBytes = (S : ℕ) (bytes : List ℕ) (f : Formula) (used : ℕ) → whole_of S bytes ≡ good f used → length bytes ≤ 98303
