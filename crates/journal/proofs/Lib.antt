-- Laws of a run.
pub mod Telling
pub mod Whole
