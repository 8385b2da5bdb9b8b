-- The worked cases, as one table.
pub mod Table
