pub mod Courses
pub mod Left
pub mod Moves
pub mod Spots
pub mod Stops
