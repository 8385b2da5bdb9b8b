-- Positions as the code holds them.
pub mod Placed
