-- Laws of the tables by shares.
pub mod Fair
pub mod Filled
