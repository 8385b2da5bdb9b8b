-- What the hall planner says of a hall text (Hall), and what it promises (Promise).
pub mod Hall
pub mod Promise
