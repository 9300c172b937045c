-- The laws of `exact`, which the crates above cite: the ring of whole numbers, their order and signs, sizes, what a loop has done, divisors, rows, terms, atoms, the leaves of a formula.

pub mod Ring
pub mod Order
pub mod Sizes
pub mod Loops
pub mod Divisors
pub mod Rows
pub mod Reduced
pub mod Terms
pub mod Atoms
pub mod Leaves
pub mod Examples
