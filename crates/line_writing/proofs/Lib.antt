-- The laws of digits found by subtracting powers of ten (Powers), and of what is put (Putting).
pub mod Powers
pub mod Putting
