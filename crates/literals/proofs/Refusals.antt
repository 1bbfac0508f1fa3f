-- No refusal has the number 0, which is that of a call that is done.
use Rattle.meaning.proofs.Kit.{◌≤◌, arith}
use Rattle.literals.specs.Refusals.{number_of}
use Rattle.literals.specs.declared.refusal.Refusal.{Refusal}
use Rattle.literals.specs.declared.refusal.Refusal.TheVariants.{BadBoard, BadLiteral, CutShort, UnknownKind, TooDeep, BytesLeftOver}
use Rattle.literals.specs.declared.refusal.Refusal.TheVariants.{TooManySymbols, NoAssignment, TableFull, AlreadyHeld, NotHeld, NothingToShow}
use Rattle.literals.specs.declared.refusal.Refusal.TheVariants.{TableTooShort, BadText, BadFurnace, BadCandidates, ConflictStays, BadPositions}
use Rattle.literals.specs.declared.refusal.Refusal.TheVariants.{EmptyStack, StackedPremise}

pub number_some : (why : Refusal) → 1 ≤ number_of why
number_some BadBoard = omega arith
number_some BadLiteral = omega arith
number_some CutShort = omega arith
number_some UnknownKind = omega arith
number_some TooDeep = omega arith
number_some BytesLeftOver = omega arith
number_some TooManySymbols = omega arith
number_some NoAssignment = omega arith
number_some TableFull = omega arith
number_some AlreadyHeld = omega arith
number_some NotHeld = omega arith
number_some NothingToShow = omega arith
number_some TableTooShort = omega arith
number_some BadText = omega arith
number_some BadFurnace = omega arith
number_some BadCandidates = omega arith
number_some ConflictStays = omega arith
number_some BadPositions = omega arith
number_some EmptyStack = omega arith
number_some StackedPremise = omega arith
