-- The laws: where the walk begins (Begins), what it leaves (Ends), and that what is handed back is the model's answer (Answered).
pub mod Begins
pub mod Ends
pub mod Answered
