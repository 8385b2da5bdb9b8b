-- The judgement in the model's terms (Views), and how large its values can be (Ranges).
pub mod Views
pub mod Ranges
