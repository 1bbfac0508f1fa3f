-- How boards and answers cross to C.
pub mod Crossing
