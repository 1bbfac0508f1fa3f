-- Laws of the desk's lines.
-- the words of a line, and what a word says
pub mod WordPlaces
pub mod Bytes
pub mod Digits
pub mod Literals
pub mod FirstWords
pub mod Typed
-- the marks of a pair table
pub mod Marked
pub mod Rows
-- what a line does to the desk, and lines one after the other
pub mod Slips
pub mod Asks
pub mod Own
pub mod Named
pub mod Carried
pub mod Along
pub mod Wrong
mod Vectors
mod Unique
