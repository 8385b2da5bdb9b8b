-- What the new job's text says (Carried), and carrying on from text to text (Carries).
pub mod Carried
pub mod Carries
