-- The laws, in the order in which they rest on each other.
pub mod Bools
pub mod Integers
pub mod Lists
pub mod Arrays
pub mod Joined
pub mod Chosen
pub mod Filled
pub mod Diff
