-- Laws of the record of both stacks: its test, its room, what a step knows of it and answers, and what each call leaves of it.
pub mod GoodStacks
mod Flags
pub mod Struck
pub mod Room
mod Known
pub mod Stepping
pub mod Own
pub mod Kept
mod Unique
