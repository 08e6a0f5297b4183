pub mod Directory
pub mod Memory
