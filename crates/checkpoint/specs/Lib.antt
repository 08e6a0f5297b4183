pub mod State
pub mod Grammar
pub mod Reading
pub mod Held
pub mod Restart
