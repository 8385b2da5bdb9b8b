-- The lines of a hall's answer fit the room (Lengths), and each line with its plan, place by place (Held).
pub mod Held
pub mod Lengths
