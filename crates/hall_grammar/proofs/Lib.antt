-- Accepted texts are what the grammar says and mean what the hall planner asks for (Accepted), every such text is accepted (Complete), which faults there are (Numbered), how it is read job by job (Rows), and worked cases (Cases).
pub mod Accepted
pub mod Complete
pub mod Numbered
pub mod Cases
pub mod Rows
