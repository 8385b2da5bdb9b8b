-- The law: what the walk asks at a step after a call goes on with the next line that the table says is open.
pub mod Asked
