-- Laws of the index. `Following` is for the crates above; the others serve the proofs of this one.
mod Cells
mod Next
mod Listing
pub mod Following
mod Examples
mod Unique
pub mod Reading
