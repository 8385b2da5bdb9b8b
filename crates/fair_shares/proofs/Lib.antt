-- Laws of what is kept of a row.
pub mod Rows
