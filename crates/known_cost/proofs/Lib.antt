-- The theorems, in the order in which they rest on each other.
pub mod From
pub mod Ended
