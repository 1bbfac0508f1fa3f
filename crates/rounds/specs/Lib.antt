-- What the functions say of the ranks round by round, of the queue, and of the rows that are looked at.
pub mod Ranks
pub mod Queue
pub mod Visits
