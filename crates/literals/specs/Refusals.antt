-- 01, "Numbers of the refusals", and 02's.
use Rattle.std.specs.Prelude.{ℕ}
use Rattle.literals.specs.declared.refusal.Refusal.{Refusal}
use Rattle.literals.specs.declared.refusal.Refusal.TheVariants.{BadBoard, BadLiteral, CutShort, UnknownKind, TooDeep, BytesLeftOver}
use Rattle.literals.specs.declared.refusal.Refusal.TheVariants.{TooManySymbols, NoAssignment, TableFull, AlreadyHeld, NotHeld, NothingToShow}
use Rattle.literals.specs.declared.refusal.Refusal.TheVariants.{TableTooShort, BadText, BadFurnace, BadCandidates, ConflictStays, BadPositions}
use Rattle.literals.specs.declared.refusal.Refusal.TheVariants.{EmptyStack, StackedPremise}

abbrev pub number_of : Refusal → ℕ
number_of BadBoard = 1
number_of BadLiteral = 2
number_of CutShort = 3
number_of UnknownKind = 4
number_of TooDeep = 5
number_of BytesLeftOver = 6
number_of TooManySymbols = 7
number_of NoAssignment = 8
number_of TableFull = 9
number_of AlreadyHeld = 10
number_of NotHeld = 11
number_of NothingToShow = 12
number_of TableTooShort = 13
-- 14, "a literal would need a rank above 2S", was taken out (02, Ticket 7), and its number stays unused
number_of BadText = 15
number_of BadFurnace = 16
number_of BadCandidates = 17
number_of ConflictStays = 18
number_of BadPositions = 19
number_of EmptyStack = 20
number_of StackedPremise = 21
