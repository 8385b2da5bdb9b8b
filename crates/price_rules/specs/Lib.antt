-- Prices by a rule: the rule (Rule), the grammar of its lines (Grammar), their text (Rendering), what is known of those that are accepted (Valid), and the code's structs in these terms (Views).
pub mod Rule
pub mod Grammar
pub mod Rendering
pub mod Valid
pub mod Views
