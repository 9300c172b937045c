-- What the contracts of the code cite, file by file as in src/.
pub mod Verdicts
pub mod Stepping
pub mod Running
pub mod Finishing
pub mod Eliminating
