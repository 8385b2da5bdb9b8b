-- Laws of the loops (Filling); and that the rows are those of a walk from the free sources, and the first row that of the job's own walk (Starts).
pub mod Filling
pub mod Starts
