-- The laws: optional lines (Optionals), prices at the low ends (Lows), what an accepted and a refused text give (Accepted, Numbered), that the text of a valid record fits and is accepted (Lengths, Longest, Complete),
-- and what the due step is that the judge reports (Due).
pub mod Optionals
pub mod Lows
pub mod Accepted
pub mod Numbered
pub mod Lengths
pub mod Longest
pub mod Complete
pub mod Due
