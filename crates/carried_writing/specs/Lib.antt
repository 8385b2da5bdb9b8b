-- The lists of numbers that the writer takes (Lists), and what is written, by lists (Left).
pub mod Lists
pub mod Left
