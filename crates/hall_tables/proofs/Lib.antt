-- The laws: the floor, line by line, and lines that have begun.
pub mod Floors
