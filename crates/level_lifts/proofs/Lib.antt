-- Laws of lifts in an array, level by level.
pub mod Levels
