pub mod Blocks
pub mod Over
pub mod Paths
