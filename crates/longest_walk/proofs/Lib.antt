-- What a node leaves undecided (Undecided), when its bound is missing (Missing), that the count is that of the walk (Counted), and that it has few entries (Entries).
pub mod Undecided
pub mod Missing
pub mod Counted
pub mod Entries
