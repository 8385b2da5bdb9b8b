-- The lines and pieces of a table's text (Pieces).
pub mod Pieces
