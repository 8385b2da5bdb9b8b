-- Laws of the incumbent's name, and of the answer.
pub mod Names
pub mod Answered
