-- What is promised of the text of formulae, each as a type. The proofs are in `proofs/`, under the same names in small letters.
use Rattle.std.specs.Prelude.{ℕ, ◌≤◌, ◌≡◌, ◌⊎◌, true, List}
use Rattle.meaning.specs.Formulae.{Formula}
use Rattle.literals.specs.Refusals.{number_of}
use Rattle.literals.specs.declared.refusal.Refusal.{Refusal}
use Rattle.formula.specs.Parse.{good, bad, whole_of}
use Rattle.formula.specs.Answers.{is_good, formula_of}
use Rattle.chains.specs.Form.{whole_text}
use Rattle.text.specs.Reading.{bytes_in, read_in}
use Rattle.text.specs.Writing.{text_in}

-- "reading it gives the same bytes": the text written of a formula's bytes is of the form, and its bytes are those
pub record ReadsAs (text bytes : List ℕ) : Type 0 where
  pub keeps : is_good (whole_text text) ≡ true
  pub same : bytes_in text ≡ bytes

abbrev pub SameBytes : Type 0
SameBytes = (S : ℕ) (bytes : List ℕ) → S ≤ 200 → is_good (whole_of S bytes) ≡ true → ReadsAs (text_in S bytes) bytes

-- the bytes that a text spells can be refused with 2 and 5 only; read, they are the formula that the text says
abbrev pub TwoOrFive : Type 0
TwoOrFive = (S : ℕ) (text : List ℕ) (why : Refusal) (at : ℕ) → read_in S text ≡ bad why at → (number_of why ≡ 2) ⊎ (number_of why ≡ 5)

abbrev pub SaysSame : Type 0
SaysSame = (S : ℕ) (text : List ℕ) (f : Formula) (used : ℕ) → S ≤ 200 → read_in S text ≡ good f used → formula_of (whole_text text) ≡ f
