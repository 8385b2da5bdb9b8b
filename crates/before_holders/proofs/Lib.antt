-- Parsers that read exactly what is written for their values (Exact), the two grammars of a job text (Jobs), plan texts (Plans), and the answers (Answers).
pub mod Exact
pub mod Jobs
pub mod Plans
pub mod Answers
