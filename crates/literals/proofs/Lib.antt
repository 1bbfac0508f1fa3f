-- Facts that several proofs of the crate cite, and laws of its definitions.
pub mod Signed
pub mod Places
pub mod Arguments
pub mod Opposites
pub mod Rows
pub mod RuleNumbers
pub mod RuledRows
pub mod Decoding
pub mod Differing
pub mod Encoding
pub mod Counting
pub mod Copying
pub mod Scanning
pub mod Refusals
mod Examples
mod Unique
