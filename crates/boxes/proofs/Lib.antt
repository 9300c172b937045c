-- The laws of boxes and lists.
pub mod Lists
pub mod Walking
