pub mod Asks
pub mod Stays
