pub mod Courses
pub mod Spots
pub mod Moves
