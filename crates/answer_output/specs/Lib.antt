-- What was printed, and that it is an answer (Prints).
pub mod Prints
