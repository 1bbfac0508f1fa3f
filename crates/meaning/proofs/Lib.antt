-- Laws and theorems, cited by the crates below.
pub mod Kit
pub mod Tests
pub mod Tables
pub mod Bits
pub mod BySize
pub mod Literals
pub mod Formulae
pub mod Clauses
pub mod Implicates
pub mod Primes
pub mod Order
pub mod OrderOfRows
pub mod Rows
pub mod ClauseRows
pub mod SoundRows
pub mod Rounds
pub mod Gives
pub mod Ranks
pub mod Supports
pub mod Reach
pub mod Derived
mod Standing
pub mod Blame
mod Ways
pub mod Growth
pub mod Unmoved
mod Reason
mod LeavingOff
pub mod TwoWays
mod Words
pub mod Forced
pub mod DemandThree
pub mod Names
mod Boards
pub mod Answers
