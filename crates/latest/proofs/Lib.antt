-- The theorems, in the order in which they rest on each other: one part (Latest, Prices), the promise (Promised), the planner's plan (Planned), what code may test (ByVerdict), worked cases (Cases). Code cites `at_opening_lem` of Latest.
pub mod Latest
pub mod Prices
pub mod Promised
pub mod Planned
pub mod ByVerdict
pub mod Cases
