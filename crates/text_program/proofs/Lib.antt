-- The buffer of one byte more than a text may have changes no answer (Cut), and an answer to what was read is what is printed (Printing).
pub mod Cut
pub mod Printing
