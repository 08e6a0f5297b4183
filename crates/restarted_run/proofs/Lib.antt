mod Bytes
mod Words
mod Effects
mod Steps
mod Starts
mod Restored
mod Points
mod Read
pub mod Plans
mod Ends
mod Rest
