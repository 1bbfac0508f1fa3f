-- The nine calls and the second ask: the tests that refuse each, in the documents' order, and what a good one answers and writes.
pub mod Furnaces
pub mod Faults
pub mod Placing
pub mod Changes
pub mod Rules
pub mod Ranking
pub mod Settling
pub mod Asking
pub mod Grounds
