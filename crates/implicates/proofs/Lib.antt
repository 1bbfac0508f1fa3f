-- Laws of the numbers of clauses, of the tables of hits and primes, and of rows appended to the table.
pub mod Numbers
pub mod Digits
pub mod Thirds
pub mod Table
pub mod Lone
pub mod Putting
pub mod Appending
pub mod Encoded
pub mod Turns
pub mod Rules
mod Unique
