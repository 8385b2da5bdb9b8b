-- The laws of the pieces of a part's text (Pieces) and of its length (Lengths).
pub mod Pieces
pub mod Lengths
