-- What the text that is given is worth (Going), that the call keeps its promise (Promised), what it says of texts, and E13 of its answers (Said), that it fits its room (Lengths), and what its code finds of a log (Done).
pub mod Going
pub mod Promised
pub mod Said
pub mod Lengths
pub mod Done
