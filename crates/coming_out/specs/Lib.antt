-- Rows and matrices of sixteen parts (Rows).
pub mod Rows
