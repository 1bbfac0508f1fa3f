-- A line of the desk: its words, what it orders, the call that it is, and what the desk's state is after it.
pub mod Words
pub mod Reading
pub mod Marks
pub mod Orders
pub mod Lines
pub mod States
pub mod Promises
