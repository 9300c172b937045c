-- 01's construction, in its order.
pub mod Variables
pub mod Pushing
pub mod Points
pub mod Lists
pub mod Copies
pub mod Steps
pub mod Eliminate
pub mod Counts
pub mod Test
pub mod Levels
pub mod Tame
