-- The demands, proved.
pub mod RuleTexts
pub mod Refusals
pub mod Changes
mod Lent
mod Tested
mod Moves
pub mod Stored
pub mod Places
pub mod FormulaPlaces
pub mod Stops
pub mod Told
mod Spared
mod Fewer
pub mod Blamed
pub mod Unmoved
pub mod Asked
pub mod Listed
pub mod Withdrawn
pub mod Texts
pub mod FormulaTexts
pub mod Explained
pub mod Bounded
mod History
pub mod Numbered
pub mod Stacked
pub mod Apart
pub mod Tries
pub mod Good
pub mod Ways
pub mod Valves
mod Computing
mod Boards
mod TwoFurnaces
mod NumberedBoards
mod GroundBoards
mod AskedBoards
mod ListedBoards
mod WithdrawnBoards
mod ValveBoards
mod StackBoards
mod Carried
