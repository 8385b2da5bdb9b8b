pub mod Suffix
