pub mod Layout
pub mod Sheet
pub mod Tables
pub mod Rows
