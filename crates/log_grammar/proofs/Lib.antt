-- The theorems, in the order in which they rest on each other: the openings up to a step (Past) and what was done at them (Done), logs told and read back (Logs), their faults (Numbered), two logs as one (Joined).
pub mod Past
pub mod Done
pub mod Logs
pub mod Numbered
pub mod Joined
