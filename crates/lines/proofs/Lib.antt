-- The laws, in the order in which they rest on each other.
pub mod Reading
pub mod Parsing
pub mod Outcomes
pub mod Written
pub mod Back
pub mod Sound
pub mod Steps
pub mod Complete
pub mod ValueLines
pub mod Numbered
pub mod Writing
pub mod Texts
