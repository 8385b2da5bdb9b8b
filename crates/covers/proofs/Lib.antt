-- The laws: what accepted lines are (Accepted), that valid ones are accepted (Complete), which faults there are (Numbered), and how long they are (Lengths).
pub mod Accepted
pub mod Complete
pub mod Numbered
pub mod Lengths
