-- What is checked of a table of shares, and the shares that it then holds.
pub mod Checked
