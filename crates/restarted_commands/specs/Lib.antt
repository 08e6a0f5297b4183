pub mod Restarted
pub mod Files
