-- The laws: what a rule's prices are (Prices), one part's array of them (Arrays), what accepted lines are (Accepted), that valid ones are accepted (Complete), which faults there are (Numbered), how long they are (Lengths), and worked rules (Example).
pub mod Prices
pub mod Arrays
pub mod Accepted
pub mod Complete
pub mod Numbered
pub mod Lengths
pub mod Example
