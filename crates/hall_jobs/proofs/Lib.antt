-- The laws: a line that joins the others makes a hall with them (Joined); the lines by their places (Lines).
pub mod Joined
pub mod Lines
