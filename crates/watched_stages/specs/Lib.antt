pub mod Watched
pub mod Dispatching
