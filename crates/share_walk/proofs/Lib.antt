-- Laws of the walk's nodes, of what its walk does, of the first node; and what its end is worth.
pub mod Nodes
pub mod Walks
pub mod Roots
pub mod Worth
