-- Laws of the incumbent's plan, and of what the search answers.
pub mod Stops
pub mod Answered
