-- The published model (Published), what may be dismounted (Dismounting), and the tables of 001 (Tables).
pub mod Published
pub mod Dismounting
pub mod Tables
