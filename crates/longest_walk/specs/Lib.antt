-- The count that is asked for, with what it promises (Longest), and how it is worked out without walking (Count).
pub mod Longest
pub mod Count
