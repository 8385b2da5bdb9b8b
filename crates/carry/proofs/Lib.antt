-- The theorems, in the order in which they rest on each other: lists cut at a place (Splits), steps and gaps counted from the log's step (Later, Gaps); a plan and its log, lives and cost (Lives to Begun); E12.6 (Best);
-- 10 and 11 (Answers); a part with nothing left (Worn); the new job (Valid); E12.6 of every step (Start); E13 (Joined); both of what the planner and the call answer (Printed).
pub mod Splits
pub mod Later
pub mod Gaps
pub mod Lives
pub mod Parts
pub mod Keeps
pub mod Kin
pub mod Costs
pub mod Begun
pub mod Best
pub mod Passed
pub mod Answers
pub mod Worn
pub mod Valid
pub mod Start
pub mod Joined
pub mod Printed
pub mod Cases
