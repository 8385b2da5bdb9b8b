-- A plan that is marked stop by stop.
pub mod Marks
