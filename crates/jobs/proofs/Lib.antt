-- The laws, in the order in which they rest on each other.
pub mod Jobs
pub mod Plans
