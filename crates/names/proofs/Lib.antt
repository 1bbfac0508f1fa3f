-- Laws of names, of their table and of a text's names replaced.
-- the table
pub mod Fitting
pub mod Padding
pub mod Finding
-- names in a text
pub mod Runs
pub mod Numerals
pub mod Replaced
pub mod Read
mod Vectors
mod Unique
