-- What the call says keeps its promise (Promised); what its code finds can be printed (Fits), and its lines fit the room (Lengths).
pub mod Promised
pub mod Fits
pub mod Lengths
