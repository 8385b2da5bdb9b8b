-- What is printed of a hall's answer (Lines), and what the code holds of it (Finding).
pub mod Lines
pub mod Finding
