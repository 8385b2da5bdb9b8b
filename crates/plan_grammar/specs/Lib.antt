-- The plan text: its grammar (Grammar), the text of a plan (Rendering), and which numbers its fault can have (Faults).
pub mod Grammar
pub mod Rendering
pub mod Faults
