-- How large what a plan pays can be.
pub mod Dearest
