-- Laws of the rows of stops.
pub mod Looked
pub mod Settled
pub mod Children
pub mod Names
