-- What the contracts of the code cite.
pub mod Writing
