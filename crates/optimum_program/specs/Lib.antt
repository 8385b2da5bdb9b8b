-- What the optimum's program prints (Printed).
pub mod Printed
