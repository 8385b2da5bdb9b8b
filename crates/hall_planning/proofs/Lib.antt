-- The lines of the plans are read back and accepted (ReadBack), the numbers of an answer can be printed (Ranges), and the hall planner's answer keeps its promise on every text, walk number and room (Promised).
pub mod ReadBack
pub mod Ranges
pub mod Promised
