-- Laws of what is shown of a line, and of how many rows it has.
pub mod Pages
pub mod RowsAdded
