-- How much the desk keeps.
pub mod Limits
