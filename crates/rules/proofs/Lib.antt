-- The starred sheets; what the construction keeps of limits and places; what each answer says.
pub mod Starred
pub mod Limits
pub mod PushedTerms
pub mod Tame
pub mod Stepwise
pub mod Counting
pub mod Answers
pub mod OtherLimits
pub mod StarredEnds
