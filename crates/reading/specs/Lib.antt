-- The definitions of reading, in 01's order: its limits, the numbers of its answers, a sheet on disk (numbers, formulas, records, reading them), the answers, the
-- quantifiers with the look, and what the crates above see of a record.
pub mod Limits
pub mod AnswerNumbers
pub mod Bytes
pub mod Formula
pub mod Records
pub mod Reading
pub mod Answers
pub mod Quantifiers
pub mod Views
