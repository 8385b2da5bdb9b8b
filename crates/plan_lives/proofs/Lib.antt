-- One part's changes (Follow), and the parts one after the other (Ruled).
pub mod Follow
pub mod Ruled
