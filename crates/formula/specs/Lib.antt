-- How bytes spell a formula, and what the crate's functions answer of them.
pub mod Kinds
pub mod Parse
pub mod Bytes
pub mod Answers
pub mod Promises
