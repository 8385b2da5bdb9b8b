-- An answer that a call wrote whole is what is printed (Printing).
pub mod Printing
