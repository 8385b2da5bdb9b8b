-- The log's grammar (Grammar), and the text of a log and of two as one (Rendering).
pub mod Grammar
pub mod Rendering
