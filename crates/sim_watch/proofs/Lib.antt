pub mod Steps
pub mod Countable
pub mod Totals
pub mod Items
mod Runs
mod Recordings
pub mod Texts
pub mod Skips
