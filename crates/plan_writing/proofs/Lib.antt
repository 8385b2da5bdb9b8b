-- How long a plan's lines can be.
pub mod Lengths
