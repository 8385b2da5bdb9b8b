-- How reading builds a plan up.
pub mod Marks
