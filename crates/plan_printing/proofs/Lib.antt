-- A plan's cost at the low ends (Lows), and how long what is printed of a plan can be (Lengths).
pub mod Lows
pub mod Lengths
