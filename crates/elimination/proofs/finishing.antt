-- The finishing pass.
pub mod Results
