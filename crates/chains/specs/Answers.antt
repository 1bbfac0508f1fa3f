-- What the reader answers past a bracket's chain. Contracts of internal functions name these.
use Rattle.std.specs.Prelude.{Result, Ok, Err, ℕ, ◌+◌, List, [], ◌∷◌, cond, drop, eqb}
use Rattle.literals.specs.declared.refusal.Refusal.TheVariants.{BadText}
use Rattle.formula.specs.Answers.{broken}
use Rattle.formula.specs.declared.reading.Break.{Break}
use Rattle.chains.specs.Form.{lead}
use Rattle.chains.specs.declared.signs.Class.TheVariants.{Blank}

unfoldable pub close_answer : (used : ℕ) → List ℕ → Result ℕ Break
close_answer used [] = broken BadText used
close_answer used (c ∷ rest) = cond (eqb c 41) (Ok (used + 1 + lead Blank rest)) (broken BadText used)

abbrev pub closed_answer : (inner : List ℕ) → Result ℕ Break → Result ℕ Break
closed_answer inner (Ok count) = close_answer count (drop count inner)
closed_answer inner (Err at) = Err at
