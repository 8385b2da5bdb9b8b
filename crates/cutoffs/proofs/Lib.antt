-- Laws of names (Names), and of the end of the walks (Ends).
pub mod Names
pub mod Ends
