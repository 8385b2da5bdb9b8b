-- The numbers that stand for free sources, and the rows that hold them.
pub mod Free
