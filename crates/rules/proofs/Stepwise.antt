-- One step, and the run of all steps.
pub mod Around
pub mod OneStep
pub mod Run
