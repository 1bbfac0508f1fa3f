-- What is promised of replacing names, each as a type. The proofs are in `proofs/`, under the same names in small letters.
use Rattle.std.specs.Prelude.{ℕ, ◌+◌, ◌≡◌, true, false, List, ◌∷◌, ◌++◌, length, get_or}
use Rattle.meaning.specs.Tests.{all}
use Rattle.meaning.specs.Formulae.{symbol}
use Rattle.formula.specs.Parse.{good}
use Rattle.chains.specs.Form.{lead, number_at}
use Rattle.chains.specs.declared.signs.Class.TheVariants.{Blank}
use Rattle.names.specs.Names.{in_name, is_known, symbol_named}
use Rattle.names.specs.Replacing.{renamed, replaced}

-- "same length"
abbrev pub SameLength : Type 0
SameLength = (names text : List ℕ) → length (replaced names text) ≡ length text

-- "same bytes elsewhere": a byte that is none of a name stays, and parts the text; between two such bytes a run is replaced by itself alone
abbrev pub OtherBytes : Type 0
OtherBytes =
    (names before after : List ℕ) (c : ℕ) → in_name c ≡ false
    → replaced names (before ++ (c ∷ after)) ≡ replaced names before ++ (c ∷ replaced names after)

abbrev pub OneRun : Type 0
OneRun = (names word : List ℕ) → all in_name word ≡ true → replaced names word ≡ renamed names word

-- and a run that is no symbol's name stays
abbrev pub UnknownStays : Type 0
UnknownStays = (names word : List ℕ) → is_known names word ≡ false → renamed names word ≡ word

-- "the number that reading gives is the name's symbol": where a known name stood, and no byte of a name after it, the reader of formula text reads
-- that symbol, and all the bytes that the name had
abbrev pub ReadsSymbol : Type 0
ReadsSymbol =
    (names word rest : List ℕ) → is_known names word ≡ true → in_name (get_or rest 0 0) ≡ false
    → number_at (renamed names word ++ rest) ≡ good (symbol (symbol_named names word)) (length word + lead Blank rest)
