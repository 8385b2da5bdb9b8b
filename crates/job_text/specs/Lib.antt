-- What a job text says, in the grammar's terms (Said), that what is known of an accepted one is a fact (Facts), and the whole text's structs in the grammar's terms (Views).
pub mod Said
pub mod Facts
pub mod Views
