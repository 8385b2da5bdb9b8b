-- Laws of filling the tables, and of the job behind them.
pub mod Apart
pub mod Triangles
pub mod Filling
pub mod Raising
pub mod Sheets
pub mod Example
