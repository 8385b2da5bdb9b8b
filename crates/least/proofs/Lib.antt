pub mod Table
pub mod Most
pub mod Rows
