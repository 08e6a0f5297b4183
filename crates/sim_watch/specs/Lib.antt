pub mod Statistics
pub mod Watch
pub mod Run
pub mod Skip
pub mod Recorded
