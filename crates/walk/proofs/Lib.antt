-- Laws of the nodes (Nodes), and the first node (Root).
pub mod Nodes
pub mod Root
