pub mod Paths
pub mod Turns
pub mod LawProofs
pub mod Calls
pub mod Cycles
