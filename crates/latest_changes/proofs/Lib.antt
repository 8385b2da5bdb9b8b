-- The stops after each opening (Nexts), a part's changes one after the other (Made), and the parts one after the other (Rows).
pub mod Nexts
pub mod Made
pub mod Rows
