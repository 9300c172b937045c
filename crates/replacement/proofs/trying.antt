-- The copies at all points.
pub mod Joining
pub mod PointLaws
