-- The first part of lists with those behind it, and what the lists have of it (Fronts).
pub mod Fronts
