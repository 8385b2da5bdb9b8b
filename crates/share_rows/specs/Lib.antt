-- Where the numbers of the shares stand (Places), the tables that hold them (Tables), and what the rows of a node hold (Stacked).
pub mod Places
pub mod Tables
pub mod Stacked
