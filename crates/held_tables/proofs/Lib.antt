-- Laws of filling the tables for holders, and of the job behind them.
pub mod Ends
pub mod Sets
pub mod Lists
pub mod Masks
pub mod Lanes
pub mod Raising
pub mod Sheets
pub mod Filled
