-- 02, Ticket 2, and 01, "Text, where a ticket takes it": DIMACS text, read onto a board and written from it.
pub mod Words
pub mod Form
pub mod Clauses
pub mod Reading
pub mod Writing
pub mod Promises
pub mod Gathering
pub mod Surveying
