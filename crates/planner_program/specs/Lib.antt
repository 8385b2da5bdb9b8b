-- What the planner's program prints (Printed).
pub mod Printed
