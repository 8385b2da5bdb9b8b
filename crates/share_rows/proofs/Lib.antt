-- Laws of the rows where shares are owed.
pub mod Prices
pub mod Over
pub mod Lanes
