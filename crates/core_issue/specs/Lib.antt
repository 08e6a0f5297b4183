pub mod Turns
pub mod Stage
