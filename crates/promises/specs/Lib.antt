-- What is promised of the calls, over every sequence of them.
pub mod Calls
pub mod Demands
