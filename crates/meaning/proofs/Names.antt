-- Short names for boards that are worked out by computation: literals by their symbols, and the first symbols as formulae.
use Rattle.meaning.proofs.Kit.{true, false, ℕ}
use Rattle.meaning.specs.Literals.{place}
use Rattle.meaning.specs.Formulae.{Formula, symbol}

abbrev pub plus : ℕ → ℕ
plus s = place s true

abbrev pub minus : ℕ → ℕ
minus s = place s false

abbrev pub one : Formula
one = symbol 1

abbrev pub two : Formula
two = symbol 2

abbrev pub three : Formula
three = symbol 3

abbrev pub four : Formula
four = symbol 4

abbrev pub five : Formula
five = symbol 5

abbrev pub six : Formula
six = symbol 6
