-- The bytes of a text, and what each is.
use Rattle.std.specs.Prelude.{ℕ, Bool, false, cond, ◌||◌, List, [], ◌∷◌, eqb}
use Rattle.meaning.specs.Formulae.{Formula, and, or, imp, same}
use Rattle.spelling.specs.Text.{is_digit}
use Rattle.chains.specs.declared.signs.Class.{Class}
use Rattle.chains.specs.declared.signs.Class.TheVariants.{Blank, Denial, Number}
use Rattle.chains.specs.declared.signs.Start.{Start}
use Rattle.chains.specs.declared.signs.Start.TheVariants.{Digits, Bracket, Neither}

-- spaces; spaces and minus signs; digits
abbrev pub belongs : Class → ℕ → Bool
belongs Blank c = eqb c 32
belongs Denial c = eqb c 32 || eqb c 45
belongs Number c = is_digit c

-- what a unit starts with, past its spaces and minus signs: a digit, or `(`
abbrev pub start_of : List ℕ → Start
start_of [] = Neither
start_of (c ∷ rest) = cond (is_digit c) Digits (cond (eqb c 40) Bracket Neither)

-- "units joined by `&` only or by `|` only, grouped from the left, or two units joined by `>` (implies) or by `=` (same)": whether a chain goes on
-- with the mark c, where `join` is what joins its units so far, 0 where there is only one
abbrev pub first_or : ℕ → ℕ → Bool
first_or join c = eqb join 0 || eqb join c

abbrev pub goes_on : (join c : ℕ) → Bool
goes_on join c =
    cond (eqb c 38) (first_or join c)
    (cond (eqb c 124) (first_or join c)
    (cond (eqb c 62) (eqb join 0)
    (cond (eqb c 61) (eqb join 0) false)))

-- the formula of two units with the mark between them
abbrev pub joined_by : (mark : ℕ) → Formula → Formula → Formula
joined_by mark f g = cond (eqb mark 38) (and f g) (cond (eqb mark 124) (or f g) (cond (eqb mark 62) (imp f g) (same f g)))
