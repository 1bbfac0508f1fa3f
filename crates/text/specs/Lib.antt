-- 02, Ticket 5, "Formulae in plain text": the three calls.
pub mod Reading
pub mod Adding
pub mod Writing
pub mod Promises
