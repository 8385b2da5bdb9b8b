-- Rows that are read one after the other (Rows).
pub mod Rows
