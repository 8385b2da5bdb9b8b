-- What the search ends in can be printed and fits the room (Lengths), and the call keeps its promise (Promised).
pub mod Lengths
pub mod Promised
