-- The table of boundary terms.
pub mod TermLaws
