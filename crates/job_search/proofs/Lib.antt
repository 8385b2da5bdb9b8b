-- The arrays of a job without holders, charged, as what the search asks for (Plain), and the ranges of the answer to an accepted job (Limits).
pub mod Plain
pub mod Limits
