-- The laws of the pieces of the text (Pieces), of the loop that puts the lists' parts (Loop), and of the text's length (Lengths).
pub mod Pieces
pub mod Loop
pub mod Lengths
