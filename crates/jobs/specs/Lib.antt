-- The structs in the model's terms (Views), what is known of an accepted job (Valid), and that it is a fact (Facts).
pub mod Views
pub mod Valid
pub mod Facts
