-- What each of the walks that end is worth.
pub mod Endings
