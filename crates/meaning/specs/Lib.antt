-- What a sheet means.
pub mod Meaning
