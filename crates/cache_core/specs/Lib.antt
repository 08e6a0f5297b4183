pub mod Limits
pub mod Replay
pub mod Stands
pub mod Ways
pub mod Sound
pub mod Laws
