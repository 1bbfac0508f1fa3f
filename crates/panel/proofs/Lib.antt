-- Laws of what crosses to C.
pub mod Flags
pub mod Narrow
mod Unique
