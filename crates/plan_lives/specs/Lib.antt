-- The code's verdict on the lives in the model's terms (Views), and what one step of each loop adds (Steps).
pub mod Views
pub mod Steps
