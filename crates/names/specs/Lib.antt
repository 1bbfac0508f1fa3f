-- The desk's names: what a name is, the table of them, and formula text in which names stand for numbers.
pub mod Slots
pub mod Names
pub mod Replacing
pub mod Promises
