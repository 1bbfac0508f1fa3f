-- Laws of text and its clauses, of clauses as rules and as rows, and of rows as text.
-- a text's words, header and clauses
mod Tested
pub mod Scanning
pub mod Numbers
pub mod Literals
pub mod Splitting
pub mod Comments
pub mod Heading
-- a clause gathered
pub mod Shifting
pub mod Inserting
pub mod Collecting
pub mod FirstClause
-- a clause as a rule
pub mod FirstFaults
pub mod GatheredSymbols
mod InsertedPlaces
pub mod GatheredPlaces
mod ClauseValues
mod PlacedRows
pub mod ClauseRules
pub mod FoundFaults
-- the two passes, and what a reading answers
pub mod Clauses
pub mod SmallPlaces
pub mod Judging
pub mod Surveying
pub mod LastPass
pub mod Answers
pub mod ClauseCount
-- rows as text, and back
pub mod Digits
pub mod Lines
pub mod RowLiterals
pub mod TextLines
pub mod Written
pub mod RoundTrip
pub mod SoundTables
pub mod TextBound
pub mod OwnRows
pub mod SameRows
mod Vectors
mod Unique
