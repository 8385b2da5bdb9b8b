-- What a writer of a lent slice asks and promises (Puts), how digits are written with zeros in front (Padded), and that code divides nowhere (Undivided). What a line is, and what it is for bytes to be written into a slice, is said in `lines` (Text, Wrote).
pub mod Padded
pub mod Puts
pub mod Undivided
