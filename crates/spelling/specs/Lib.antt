-- Numbers and literals in decimal, and pieces of text in a buffer.
pub mod Text
