-- The places of a set (Places).
pub mod Places
