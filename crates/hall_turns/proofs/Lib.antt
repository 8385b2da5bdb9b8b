pub mod NextLine
pub mod Settling
pub mod Stays
