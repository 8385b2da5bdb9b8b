-- Steps one after the other (Steps).
pub mod Steps
