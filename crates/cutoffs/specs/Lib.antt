-- Where a walk ends the walks (Ends), and where the walks end (Risen).
pub mod Ends
pub mod Risen
