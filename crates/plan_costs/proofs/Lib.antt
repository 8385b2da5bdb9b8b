-- Sums over openings (Sums), the prices of the parts (Prices), the removals (Removed), and how much a plan can cost (Dearest).
pub mod Sums
pub mod Prices
pub mod Removed
pub mod Dearest
