-- What is kept of a text that is cut one byte past its limit (Cut).
pub mod Cut
