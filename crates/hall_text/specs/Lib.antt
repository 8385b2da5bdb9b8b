-- A hall as far as its text is read (SoFar).
pub mod SoFar
