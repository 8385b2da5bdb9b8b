-- What the search by shares finds of a job.
pub mod Sought
