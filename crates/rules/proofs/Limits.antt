-- What the construction keeps of the limits.
pub mod Levels
pub mod Copies
