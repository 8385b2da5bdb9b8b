-- The theorems, in the order in which they rest on each other.
pub mod Tests
pub mod Exchange
pub mod Split
pub mod SamePlan
pub mod Shared
pub mod Certified
pub mod Lifted
pub mod Gap
pub mod Free
pub mod Sourced
pub mod Dolls
pub mod Rising
pub mod Rows
pub mod BlockRows
pub mod Owed
pub mod Cases
pub mod LiftCases
