-- The laws of what the lists state (Facts) and of the lines of counts (CountLines).
pub mod Facts
pub mod CountLines
