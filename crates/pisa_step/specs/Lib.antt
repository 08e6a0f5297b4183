pub mod Reader
pub mod Words
pub mod Actions
pub mod Arithmetic
pub mod Memory
pub mod Effect
pub mod Proper
pub mod Dependence
