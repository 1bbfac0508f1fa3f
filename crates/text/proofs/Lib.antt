-- Laws of the three calls.
pub mod Rooms
pub mod ReadText
pub mod RuledText
pub mod WrittenText
pub mod Back
mod Unique
