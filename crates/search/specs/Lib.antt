-- The plan of an incumbent (Plan), and what the search finds (Found).
pub mod Plan
pub mod Found
