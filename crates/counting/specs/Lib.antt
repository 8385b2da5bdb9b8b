-- What the call hands over (Count), and what it promises (Promise).
pub mod Count
pub mod Promise
