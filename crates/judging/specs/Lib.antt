-- What the judge says of two texts (Judge), and what it promises (Promise).
pub mod Judge
pub mod Promise
