-- The numbers of a job as the code lays them out.
pub mod Laid
