-- The laws: a line's numbers by level (Levels), and what its functions find (Lines).
pub mod Levels
pub mod Lines
