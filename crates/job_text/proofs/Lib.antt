-- The whole text's answers in the grammar's terms.
pub mod Views
