pub mod Solved
pub mod Planned
