-- What the planner says of a job text (Plan), and what it promises (Promise).
pub mod Plan
pub mod Promise
