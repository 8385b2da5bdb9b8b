-- The code's state and node as the search's.
pub mod State
