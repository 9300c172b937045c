-- 01's numbers: rows, divisors, boundary terms and midpoints, an atom at a point.
pub mod Numbers
pub mod Divisor
pub mod Terms
pub mod Atoms
