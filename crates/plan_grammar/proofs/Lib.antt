-- The laws, in the order in which they rest on each other.
pub mod Lists
pub mod Steps
pub mod Jobs
pub mod Nothing
pub mod Numbered
pub mod Valid
pub mod Accepted
pub mod Shapes
pub mod Lengths
pub mod Back
pub mod Rendered
pub mod Printed
