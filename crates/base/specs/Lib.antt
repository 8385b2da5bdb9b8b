-- What a loop wrote (Filled), lists one behind the other (Joined) and what a test chooses of numbers (Chosen), what holds of each of a list's values (Each), sums of numbers (Sums), small signed numbers (Signed).
pub mod Filled
pub mod Joined
pub mod Chosen
pub mod Each
pub mod Sums
pub mod Signed
