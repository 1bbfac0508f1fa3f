-- Laws of texts and their formulae.
-- how a text is read
pub mod Words
pub mod Going
pub mod Runs
pub mod Answering
pub mod Extents
pub mod Chains
pub mod Units
pub mod Whole
-- where it offends
pub mod Steps
pub mod Stepwise
pub mod Offences
-- its bytes written
pub mod Stores
pub mod Writes
pub mod Same
pub mod Sizes
pub mod Emitted
-- a formula's text written, and read again
pub mod Joins
pub mod Texts
pub mod Bounds
pub mod Numerals
pub mod Links
pub mod Again
mod Vectors
mod Unique
