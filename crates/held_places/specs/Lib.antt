pub mod Blocks
pub mod Arrays
pub mod Changes
