-- In reading order: what shares are, when they are fair, and the estimate by them (Shares); the walk of the planner's tree with another estimate (Optimum), and what it says where a cost is known (Certificate); lifts of its levels (Lift), where they come from (Sources, Dolls), and rows for code (Rows); cutoffs from below (Rising).
pub mod Shares
pub mod Optimum
pub mod Certificate
pub mod Lift
pub mod Sources
pub mod Dolls
pub mod Rows
pub mod Rising
