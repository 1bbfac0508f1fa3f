-- Laws of the rules and rows of variables and pair tables, and of the removal of positions; then of going through positions, of variables that share
-- a symbol, of truth tables and rows, and of what entering answers.
mod PositionRules
mod ExactlyOne
mod VariableRows
pub mod PairRules
mod PositionRows
mod RowKinds
mod RemovedDerived
mod Positions
pub mod Removal
mod PositionBoards
mod Turns
mod Sharing
mod Partners
mod SideRows
mod OneTruth
mod VariableRule
pub mod Answers
mod PairTables
mod Unique
