-- That each rule keeps the meaning, and so the whole construction.
pub mod Sums
pub mod Points
pub mod Truth
pub mod Keeps
pub mod Values
pub mod Construction
pub mod FreeVariables
pub mod Closed
pub mod StarredMeaning
