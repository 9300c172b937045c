-- What is promised of the calls that C makes, on one page.
pub mod Demands
