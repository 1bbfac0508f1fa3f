-- What the index says of a table.
pub mod Index
pub mod Listing
