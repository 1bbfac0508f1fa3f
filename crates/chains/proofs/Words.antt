-- The words of the definitions that the proofs speak of texts in, with those of formulae and of spelling: a proof takes them from here.
pub use Rattle.formula.proofs.Words.{Formula, neg, symbol, and, or, imp, same, Refusal, joined, Parsed, good, bad, levels, number_byte, read_of, past}
pub use Rattle.formula.proofs.Words.{is_good, broken, used_of, extent, formula_of, number_of, after}
pub use Rattle.formula.specs.declared.reading.Join.{Join}
pub use Rattle.formula.specs.declared.reading.Join.TheVariants.{And, Or, Implies, Same}
pub use Rattle.formula.specs.declared.reading.Kind.{Kind}
pub use Rattle.formula.specs.declared.reading.Kind.TheVariants.{Symbol, Not, Two, Unknown}
pub use Rattle.formula.specs.declared.reading.Break.{Break}
pub use Rattle.std.specs.Prelude.{Result, Ok, Err}
unfoldable pub use Rattle.formula.proofs.Words.{whole_of, parse, body_of, symbol_at, second_of, bytes_of}
pub use Rattle.literals.specs.declared.refusal.Refusal.TheVariants.{BadText}
pub use Rattle.chains.specs.Signs.{belongs, start_of, goes_on, joined_by}
pub use Rattle.chains.specs.Form.{by_start, unit_at, chain_at, most_open, number_end, chain_of, number_at, alone}
unfoldable pub use Rattle.chains.specs.Form.{lead, unit_of, whole_text, more, go_on, from_mark, bracket_at, closed, at_close}
pub use Rattle.chains.specs.Answers.{closed_answer}
unfoldable pub use Rattle.chains.specs.Answers.{close_answer}
pub use Rattle.chains.specs.Emitting.{kind_for, starts_at, joins_at, mark_at, symbol_bytes, start_bytes, unit_bytes, units_bytes, chain_bytes, mark_on}
unfoldable pub use Rattle.chains.specs.Emitting.{minuses_of, capped, start_on, starts, unit_bytes_of, flat, bracket_bytes, start_mark}
pub use Rattle.chains.specs.Spelling.{pair, bracketed, mark_of}
unfoldable pub use Rattle.chains.specs.Spelling.{spelled, unit_text}
pub use Rattle.chains.specs.declared.signs.Class.{Class}
pub use Rattle.chains.specs.declared.signs.Class.TheVariants.{Denial, Blank, Number}
pub use Rattle.chains.specs.declared.signs.Start.{Start}
pub use Rattle.chains.specs.declared.signs.Start.TheVariants.{Digits, Bracket, Neither}
pub use Rattle.spelling.specs.Text.{Put, is_digit, natural}
unfoldable pub use Rattle.spelling.specs.Text.{decimal, digits_of}
