-- What the functions say of tables of ranks, of the queue, and of what literals reach.
pub mod Ranks
pub mod Queue
pub mod Reach
