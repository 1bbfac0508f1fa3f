-- What is left to print at each point of a run, and the promise that all of it is handed on.
pub mod Told
pub mod Promises
