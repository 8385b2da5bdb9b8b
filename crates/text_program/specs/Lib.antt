-- What a program that reads one text prints (Printed).
pub mod Printed
