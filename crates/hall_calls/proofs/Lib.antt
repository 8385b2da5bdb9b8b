pub mod Calls
pub mod Passes
