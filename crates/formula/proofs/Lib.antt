-- Facts that several proofs of the crate cite, and laws of its definitions.
pub mod Words
pub mod Parts
pub mod Parsing
pub mod Steps
pub mod Extents
pub mod Walk
pub mod Widening
pub mod Alone
pub mod Faults
pub mod Sizes
pub mod OwnBytes
pub mod Owned
pub mod Before
pub mod Breaking
pub mod Values
pub mod Marking
pub mod Gathering
pub mod Listing
pub mod Looking
pub mod Assignments
mod Vectors
mod Unique
