-- The text that the writer makes of lists, to be read (Cut).
pub mod Cut
