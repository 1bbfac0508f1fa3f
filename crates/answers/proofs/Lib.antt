-- Laws of what is answered.
pub mod Within
