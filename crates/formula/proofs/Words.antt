-- The words of the definitions that the proofs speak of formulae in: a proof takes them from here, as it takes the kit's words from `Kit`.
pub use Rattle.meaning.specs.Formulae.{Formula, symbol, neg, and, or, imp, same, look}
unfoldable pub use Rattle.meaning.specs.Formulae.{symbols_of, occurs, value, inside}
pub use Rattle.literals.specs.Refusals.{number_of}
pub use Rattle.literals.specs.declared.refusal.Refusal.{Refusal}
pub use Rattle.literals.specs.declared.refusal.Refusal.TheVariants.{BadLiteral, CutShort, UnknownKind, TooDeep, BytesLeftOver}
pub use Rattle.formula.specs.Kinds.{kind_of, joined, joined_value}
pub use Rattle.formula.specs.Parse.{good, bad, Parsed, levels, ended, after}
unfoldable pub use Rattle.formula.specs.Parse.{parse, body_of, symbol_at, second_of, whole_of}
pub use Rattle.formula.specs.Bytes.{number_byte}
unfoldable pub use Rattle.formula.specs.Bytes.{bytes_of}
pub use Rattle.formula.specs.Answers.{is_good, broken, read_of, extent, used_of, marks_of, holds_of, past, valued_of, formula_of}
unfoldable pub use Rattle.formula.specs.Answers.{bits, truth_of, padded, named, marked, names_of}
pub use Rattle.formula.specs.declared.reading.Join.{Join}
pub use Rattle.formula.specs.declared.reading.Join.TheVariants.{And, Or, Implies, Same}
pub use Rattle.formula.specs.declared.reading.Kind.{Kind}
pub use Rattle.formula.specs.declared.reading.Kind.TheVariants.{Symbol, Not, Two, Unknown}
pub use Rattle.formula.specs.declared.reading.Break.{Break}
pub use Rattle.std.specs.Prelude.{Result, Ok, Err}
pub use Rattle.formula.specs.declared.truth.Valued.{Valued}
