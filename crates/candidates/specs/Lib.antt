-- 02, Tickets 10 and 12: the candidates that a call is given, the sets of them, and what is promised of both.
pub mod Given
pub mod Sets
pub mod Promises
