-- Laws of the crate's definitions.
pub mod Reading
pub mod Explaining
pub mod Bodies
pub mod Lines
pub mod Runs
pub mod LeftOver
pub mod Places
mod Printed
mod Unique
