-- The replacement of a quantifier.
pub mod ReplaceLaws
