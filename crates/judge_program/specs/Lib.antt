-- What the judge's program prints (Printed).
pub mod Printed
