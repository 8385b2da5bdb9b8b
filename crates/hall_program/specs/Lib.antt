-- What the hall planner's program prints (Printed).
pub mod Printed
