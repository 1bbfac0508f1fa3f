-- 02, Ticket 13, "Valves with several positions": the rules of variables and pair tables, the removal of positions, and what is promised of both; the
-- two calls; and how a pair table's rows are written.
pub mod Positions
pub mod Removal
pub mod Promises
pub mod Entering
pub mod Writing
