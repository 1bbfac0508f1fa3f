-- Laws of the board's tests, and of what its ranks tell.
pub mod TwoSets
pub mod Goodness
pub mod Placing
pub mod Ranked
pub mod Lending
pub mod Traced
pub mod Answered
pub mod Explaining
pub mod Settled
pub mod Adding
pub mod Grounded
mod Unique
