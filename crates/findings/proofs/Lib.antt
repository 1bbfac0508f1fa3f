-- Laws of what a table of ranks tells. `Filling`, `Searching`, `RankTables`, `Knowing`, `Queueing`, `Final` and `Clashes` are for the crates above
-- too; the others serve the proofs of this one.
pub mod Filling
pub mod Searching
pub mod RankTables
pub mod Knowing
pub mod Queueing
mod Givers
mod Supporting
mod Joining
pub mod Final
pub mod Clashes
mod Reaching
mod Unique
