-- The line of the fractions, and the points that stand for all of it.
pub mod TestPoints
pub mod Fractions
