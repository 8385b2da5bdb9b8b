-- The lines of a judgement fit the room (Lengths); the readings of two texts are one (Readings); the judge keeps its promise (Promised).
pub mod Lengths
pub mod Readings
pub mod Promised
