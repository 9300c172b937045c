-- Bytes that are written over others.
pub mod Lay
pub mod Moving
