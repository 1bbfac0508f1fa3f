-- Laws of the rounds, for the proofs of this crate.
mod Marking
mod OpenLiterals
mod Frontiers
mod Looking
mod Striking
mod Counting
mod Needed
mod RankTables
mod Unique
