-- The program `desk`: its state after the bytes that it read, and the promise that this is that of the calls its lines are.
pub mod Sittings
pub mod Promises
