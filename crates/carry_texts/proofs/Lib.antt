-- The theorems, in the order in which they rest on each other: the new job's text (Carried), E13 (Joined), E12.6 (Started).
pub mod Carried
pub mod Joined
pub mod Started
