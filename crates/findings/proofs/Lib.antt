-- The numbers of findings and answers (Numbers).
pub mod Numbers
