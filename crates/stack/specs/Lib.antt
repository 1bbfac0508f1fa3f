-- 02, Ticket 14, "Try a reading and take it back": the record of both stacks, and the four calls that are lent it.
pub mod Stacking
pub mod Striking
pub mod Steps
