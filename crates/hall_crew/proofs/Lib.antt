-- The laws: the openings of lines at some steps (Openings), and the table of the crew's steps by its rows (Rows).
pub mod Openings
pub mod Rows
