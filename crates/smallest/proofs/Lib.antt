-- Laws of the list of smallest sets, of the search, and of writing what it lists.
pub mod Smallest
mod Boards
mod Holding
mod Notes
mod Turns
mod Answers
mod Unique
