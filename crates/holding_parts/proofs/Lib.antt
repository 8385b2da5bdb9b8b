-- The places of a set's parts (Places), and the parts that are somebody's holder by them (Held).
pub mod Places
pub mod Held
