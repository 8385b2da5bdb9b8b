-- What is printed of a plan (Printed).
pub mod Printed
