-- The lines of one price by whether it is a pair (Pieces).
pub mod Pieces
