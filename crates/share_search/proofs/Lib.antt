-- What is handed back is what the walks found.
pub mod Ends
