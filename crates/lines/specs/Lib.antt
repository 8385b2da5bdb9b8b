-- Texts of key=value lines: how a line is written (Text), how it is read (Line), how a text is read line by line (Parser), cursors in a text (Cursor),
-- and what a writer promises of a lent slice (Wrote).
pub mod Text
pub mod Line
pub mod Parser
pub mod Fault
pub mod Reads
pub mod Wrote
