-- How the caller's table of signed 16-bit numbers spells literals and rows, what is promised of that spelling, and the numbers of the
-- refusals.
pub mod Literal
pub mod Row
pub mod Promises
pub mod Refusals
