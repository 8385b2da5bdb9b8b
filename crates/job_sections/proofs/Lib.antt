-- The sections' answers in the grammar's terms.
pub mod Views
