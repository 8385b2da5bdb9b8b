-- What is left by a log's own lives is the new job's text (Left), a part's prices as the writer takes them (Quoted), the openings that are left (Openings), and the text's pieces in the order that they are put (Pieces).
pub mod Left
pub mod Quoted
pub mod Openings
pub mod Parts
pub mod Pieces
