-- What the code's plan chooses is what the model's does.
pub mod Chosen
