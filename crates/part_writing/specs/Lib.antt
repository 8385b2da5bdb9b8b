-- The text that the writer makes of a part, to be read (Cut), and the code's structs in the terms of the grammar (Views).
pub mod Cut
pub mod Views
