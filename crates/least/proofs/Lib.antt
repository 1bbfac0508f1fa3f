-- Laws of the least to withdraw, of a set struck off, of the cores of conflicts, and of the search.
pub mod Least
mod Boards
mod Striking
mod Cores
mod Sizes
mod Turns
mod Answers
mod Unique
