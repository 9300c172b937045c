-- That each rule keeps the meaning.
pub mod Pushing
pub mod Lists
pub mod Terms
pub mod Copies
pub mod Steps
