-- Laws of the lanes where parts hide behind others.
pub mod Sets
pub mod Ranges
pub mod Most
pub mod Coded
