-- The hall's lines (Grammar), the text that says what they say (Rendering), what is known of an accepted one (Valid), what a text means (Reading), and which numbers its fault can have (Faults).
pub mod Grammar
pub mod Rendering
pub mod Valid
pub mod Reading
pub mod Faults
