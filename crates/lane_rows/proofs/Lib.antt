-- Laws of the tables and of the stack of rows.
pub mod Rising
pub mod Window
pub mod Parts
pub mod Putting
pub mod Front
pub mod Solid
pub mod Lanes
pub mod Terms
pub mod Memory
pub mod Fours
