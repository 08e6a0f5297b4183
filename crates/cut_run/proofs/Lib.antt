mod Points
pub mod Rounds
mod Whole
mod Outputs
mod Restores
