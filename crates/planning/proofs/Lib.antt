-- What is found is the search's answer and can be printed (Findings), its lines fit the room (Lengths), what is printed reads back (ReadBack), and the planner keeps its promise (Promised).
pub mod Findings
pub mod Lengths
pub mod ReadBack
pub mod Promised
