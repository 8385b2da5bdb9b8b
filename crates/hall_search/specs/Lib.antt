-- What the walk of a hall leaves (Walked), each line's plan of it (Plans), and what the search hands back as the model's answer (Found).
pub mod Walked
pub mod Plans
pub mod Found
