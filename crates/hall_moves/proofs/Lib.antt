pub mod Found
pub mod Stays
