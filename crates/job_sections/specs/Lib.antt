-- The sections' structs in the grammar's terms.
pub mod Views
