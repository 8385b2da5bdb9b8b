-- The code's plan in the grammar's terms.
pub mod Views
