-- What the calls that C makes promise.
pub mod Promises
