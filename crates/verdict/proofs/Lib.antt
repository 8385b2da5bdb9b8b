-- How large a judgement's values can be.
pub mod Limits
