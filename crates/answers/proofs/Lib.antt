pub mod Replies
pub mod Lengths
