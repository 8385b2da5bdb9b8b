-- What the call says of a job text (Optimum), and what it promises (Promise).
pub mod Optimum
pub mod Promise
