-- Quoted prices: their grammar and ends (Grammar), their text (Rendering), what is known of those that are accepted (Valid), and the code's structs in these terms (Views).
pub mod Grammar
pub mod Rendering
pub mod Valid
pub mod Views
