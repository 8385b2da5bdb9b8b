-- The judgement on a log and what is left of each part, on the openings that are past (Until).
pub mod Until
