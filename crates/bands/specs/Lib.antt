-- Jobs that differ in their prices alone, and prices within bands (Bands).
pub mod Bands
