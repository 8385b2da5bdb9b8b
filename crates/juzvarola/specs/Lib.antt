-- The library's version (Version).
pub mod Version
