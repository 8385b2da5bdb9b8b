-- What the end of the search is worth.
pub mod Ends
