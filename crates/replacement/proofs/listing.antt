-- A list while it is written.
pub mod Members
pub mod Tallying
