-- Laws of the candidates that a call is given, of the sets of them, and of loops over them.
pub mod ChosenSets
pub mod Turns
pub mod Along
pub mod Places
pub mod Different
mod Unique
