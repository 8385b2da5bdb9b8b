-- The laws, in the order in which they rest on each other.
pub mod Some
pub mod Rows
pub mod Rounds
pub mod Listed
pub mod Said
