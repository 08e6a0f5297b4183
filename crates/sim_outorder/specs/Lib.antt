pub mod Cycle
pub mod Running
