-- Laws of a sitting: a line without its carriage return, the bytes of the input as lines, the state after all of them, and what is left where an answer
-- cannot be written.
pub mod Plain
pub mod Bytes
pub mod Parts
pub mod Along
pub mod Leaving
