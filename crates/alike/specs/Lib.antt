-- Two job texts that every call answers alike, those that differ in the `walk` line alone, and those with rules written out (Alike).
pub mod Alike
