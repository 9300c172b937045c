-- The marks of a body.
pub mod MarkLaws
