pub mod Scans
pub mod Steps
pub mod Parts
pub mod Held
