-- What the contracts of the code cite, file by file as in src/.
pub mod Listing
pub mod Surveying
pub mod Marking
pub mod Copying
pub mod Gathering
pub mod Trying
pub mod Replacing
