-- Laws of the rows where parts hide behind others.
pub mod Seen
pub mod Sums
pub mod Terms
pub mod Sheets
pub mod Rows
pub mod Numbers
