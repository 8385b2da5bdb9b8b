-- Low ends of which one is there (Marks), and a job at the low ends of its prices (Lows).
pub mod Marks
pub mod Lows
