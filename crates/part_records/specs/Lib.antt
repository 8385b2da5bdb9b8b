-- The record at a place of a list of parts (Records).
pub mod Records
