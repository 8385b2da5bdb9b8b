-- Ranges of signed numbers (Ranges), idle and running steps (Steps), steps from the last one back (Backward), and the positions of a job (Places).
pub mod Ranges
pub mod Steps
pub mod Backward
pub mod Places
