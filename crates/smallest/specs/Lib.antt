-- 02, Ticket 10, "The shift desk's smallest sets": which sets carry a literal and what is promised of the list; the call; and how the
-- sets are searched.
pub mod Smallest
pub mod Promises
pub mod Listing
pub mod Search
