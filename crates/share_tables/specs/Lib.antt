-- The lanes of a job where there are always sixteen, and what its tables by shares are filled from.
pub mod Prepared
