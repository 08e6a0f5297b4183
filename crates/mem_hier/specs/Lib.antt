pub mod Limits
pub mod Replay
pub mod Stands
pub mod Sound
pub mod Laws
