-- The one pass over a body.
pub mod Settling
pub mod Sources
pub mod Sizes
pub mod Leaves
pub mod Progress
pub mod Turn
