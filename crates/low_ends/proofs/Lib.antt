-- Prices at their low ends, one more (Prices), parts at theirs, one more (Parts), and how many prices a part has (Sizes).
pub mod Prices
pub mod Parts
pub mod Sizes
