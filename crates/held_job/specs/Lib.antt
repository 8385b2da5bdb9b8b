-- What removals and holders bring into the search of a job (Removed), and its numbers in arrays (LaidOut).
pub mod Removed
pub mod LaidOut
