-- The line at fault: where it starts, and its bytes.
pub mod Fault
