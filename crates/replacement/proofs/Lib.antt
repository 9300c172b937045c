-- The laws of the code, beside the functions that they serve, and those that the crates above need.
pub mod Outcomes
