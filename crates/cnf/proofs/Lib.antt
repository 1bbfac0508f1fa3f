-- Laws of what the program makes of a text.
pub mod Making
pub mod Within
