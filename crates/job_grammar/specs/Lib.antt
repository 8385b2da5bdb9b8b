-- The job text: its grammar (Grammar), the text of a job (Rendering), its optional lines (Optionals), what is known of an accepted job (Valid), what a text says (Reading), and which numbers its fault can have (Faults).
pub mod Grammar
pub mod Rendering
pub mod Optionals
pub mod Valid
pub mod Reading
pub mod Faults
