-- 01, "Formula bytes": the table of kinds.
use Rattle.std.specs.Prelude.{ℕ, Bool, cond, not, ◌&&◌, ◌||◌, eqb}
use Rattle.std.specs.Bool.{beq}
use Rattle.meaning.specs.Formulae.{Formula, and, or, imp, same}
use Rattle.formula.specs.declared.reading.Join.{Join}
use Rattle.formula.specs.declared.reading.Join.TheVariants.{And, Or, Implies, Same}
use Rattle.formula.specs.declared.reading.Kind.{Kind}
use Rattle.formula.specs.declared.reading.Kind.TheVariants.{Symbol, Not, Two, Unknown}

-- 10 symbol, 11 not, 12 and, 13 or, 14 implies, 15 same, in hex
abbrev pub kind_of : ℕ → Kind
kind_of k =
    cond (eqb k 0x10) Symbol
    (cond (eqb k 0x11) Not
    (cond (eqb k 0x12) (Two And)
    (cond (eqb k 0x13) (Two Or)
    (cond (eqb k 0x14) (Two Implies)
    (cond (eqb k 0x15) (Two Same) Unknown)))))

-- the formula that two operands make
abbrev pub joined : Join → Formula → Formula → Formula
joined And f g = and f g
joined Or f g = or f g
joined Implies f g = imp f g
joined Same f g = same f g

-- and its value, from theirs
abbrev pub joined_value : Join → Bool → Bool → Bool
joined_value And a b = a && b
joined_value Or a b = a || b
joined_value Implies a b = not a || b
joined_value Same a b = beq a b
