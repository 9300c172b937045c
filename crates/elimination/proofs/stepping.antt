-- One step in a buffer.
pub mod Joining
pub mod WholeStep
