-- The run in a buffer.
pub mod RunLaws
