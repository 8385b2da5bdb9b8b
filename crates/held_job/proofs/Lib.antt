-- The arrays as what the searches ask for.
pub mod Held
