-- 02, Ticket 5: "Write text from bytes too, one fixed spelling: brackets round each two-operand form but the whole formula, no blanks, no leading
-- zeros".
use Rattle.std.specs.Prelude.{ℕ, List, [], ◌∷◌, ◌++◌}
use Rattle.meaning.specs.Formulae.{Formula, symbol, neg, and, or, imp, same}
use Rattle.formula.specs.declared.reading.Join.{Join}
use Rattle.formula.specs.declared.reading.Join.TheVariants.{And, Or, Implies, Same}
use Rattle.spelling.specs.Text.{natural}

-- two units and the mark between them
abbrev pub pair : (mark : ℕ) → List ℕ → List ℕ → List ℕ
pair mark first second = first ++ (mark ∷ second)

abbrev pub bracketed : List ℕ → List ℕ
bracketed text = 40 ∷ (text ++ (41 ∷ []))

-- the mark of each kind that joins two operands
abbrev pub mark_of : Join → ℕ
mark_of And = 38
mark_of Or = 124
mark_of Implies = 62
mark_of Same = 61

-- a formula as a unit: `&`, `|`, `>` and `=` between brackets
unfoldable pub unit_text : Formula → List ℕ
unit_text (symbol s) = natural s
unit_text (neg f) = 45 ∷ unit_text f
unit_text (and f g) = bracketed (pair 38 (unit_text f) (unit_text g))
unit_text (or f g) = bracketed (pair 124 (unit_text f) (unit_text g))
unit_text (imp f g) = bracketed (pair 62 (unit_text f) (unit_text g))
unit_text (same f g) = bracketed (pair 61 (unit_text f) (unit_text g))

-- and as the whole
unfoldable pub spelled : Formula → List ℕ
spelled (symbol s) = unit_text (symbol s)
spelled (neg f) = unit_text (neg f)
spelled (and f g) = pair 38 (unit_text f) (unit_text g)
spelled (or f g) = pair 124 (unit_text f) (unit_text g)
spelled (imp f g) = pair 62 (unit_text f) (unit_text g)
spelled (same f g) = pair 61 (unit_text f) (unit_text g)
