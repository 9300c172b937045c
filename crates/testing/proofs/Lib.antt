-- The laws of the test at fractions.
pub mod TestLaws
pub mod OneReply
