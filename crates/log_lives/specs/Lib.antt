-- What a log did, as code works it out on the openings that are past.
pub mod Done
