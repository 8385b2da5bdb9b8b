-- The stops after each opening as the code holds them (Stops).
pub mod Stops
