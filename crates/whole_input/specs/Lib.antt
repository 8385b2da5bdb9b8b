-- How long a text may be (Limits), and what is read of an input, and of a file that can't be opened (Input).
pub mod Limits
pub mod Input
