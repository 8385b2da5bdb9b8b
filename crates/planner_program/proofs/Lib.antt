-- The buffer of one byte more than a text may have changes no answer (Cut).
pub mod Cut
