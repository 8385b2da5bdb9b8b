-- Small marks and places (Near), changes at all openings (Keeping), and one row of the table from the next (Rows).
pub mod Near
pub mod Keeping
pub mod Rows
