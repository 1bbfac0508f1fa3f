-- Laws of the crate's definitions.
pub mod Pieces
pub mod Digits
pub mod Ascii
pub mod Unique
