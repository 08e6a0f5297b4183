pub mod Runs
pub mod Replaying
mod Breaks
mod Launches
mod Named
mod Recordings
