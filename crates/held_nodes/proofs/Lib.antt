-- The laws: decisions in numbers (Blocks), what is kept (Frames), what the functions over the rows ask (Given), a stop that is settled (Settling), the nodes below an opening and below a stop (Openings, Stops),
-- both branches one after the other (Branches), and the first node (Root).
pub mod Blocks
pub mod Frames
pub mod Given
pub mod Settling
pub mod Openings
pub mod Stops
pub mod Branches
pub mod Root
