-- 01, "The journal program": one command, and the line that it prints, as bytes.
pub mod Words
pub mod Commands
pub mod Promises
