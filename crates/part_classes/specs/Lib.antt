-- Classes of parts, what they are (Grouped), and that their numbers are small (Led).
pub mod Led
pub mod Grouped
