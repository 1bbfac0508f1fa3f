-- 02, Ticket 12, "What is the least we must withdraw?": which set it is and what is promised of it; the call; and how the sets are searched.
pub mod Least
pub mod Promises
pub mod Withdrawing
pub mod Effects
pub mod Search
