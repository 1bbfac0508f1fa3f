-- 02, Ticket 5, "Formulae in plain text": the form of a text, the formula that it says, and that formula's bytes.
pub mod Signs
pub mod Form
pub mod Answers
pub mod Emitting
pub mod Spelling
pub mod Promises
