-- What is promised of a text's form, each as a type. The proofs are in `proofs/`, under the same names in small letters.
use Rattle.std.specs.Prelude.{ℕ, ◌≤◌, ◌≡◌, ◌↔◌, List, ◌++◌, length, take}
use Rattle.meaning.specs.Formulae.{Formula}
use Rattle.literals.specs.declared.refusal.Refusal.{Refusal}
use Rattle.literals.specs.declared.refusal.Refusal.TheVariants.{BadText}
use Rattle.formula.specs.Parse.{good, bad, levels, parse}
use Rattle.chains.specs.Form.{whole_text}
use Rattle.chains.specs.Spelling.{spelled}

-- a text of the form says a formula, all of it
abbrev pub Says : List ℕ → Formula → Type 0
Says text f = whole_text text ≡ good f (length text)

-- the front of a text of the form: with some bytes after it, or none, it is one
abbrev pub IsFront : List ℕ → Type 0
IsFront front = (rest : List ℕ) × (f : Formula) × Says (front ++ rest) f

-- 01: "15 carries the place of the first byte that no text of the form can have there, or the length of a text cut short". The bytes before the
-- place are the front of a text of the form, and no more of them are; for a text cut short, the whole of it is such a front
pub record Offends (text : List ℕ) (at : ℕ) : Type 0 where
  pub within : at ≤ length text
  pub fronts : (n : ℕ) → n ≤ length text → IsFront (take n text) ↔ (n ≤ at)

abbrev pub FirstOffence : Type 0
FirstOffence = (text : List ℕ) (why : Refusal) (at : ℕ) → whole_text text ≡ bad why at → (why ≡ BadText) × Offends text at

-- and where no byte offends, the whole text is read
abbrev pub AllRead : Type 0
AllRead = (text : List ℕ) (f : Formula) (used : ℕ) → whole_text text ≡ good f used → used ≡ length text

-- 02, Ticket 5: what is written of a formula's bytes says that formula, for every formula of the levels that there are
abbrev pub SpelledSays : Type 0
SpelledSays = (S : ℕ) (bytes : List ℕ) (f : Formula) (used : ℕ) → parse S levels bytes ≡ good f used → Says (spelled f) f

-- and is never longer than 196,603 bytes
abbrev pub SpelledBound : Type 0
SpelledBound = (S : ℕ) (bytes : List ℕ) (f : Formula) (used : ℕ) → S ≤ 200 → parse S levels bytes ≡ good f used → length (spelled f) ≤ 196603
