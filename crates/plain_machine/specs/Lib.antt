pub mod Copied
pub mod Performed
pub mod Fits
pub mod Standing
pub mod Fetching
pub mod Stages
pub mod Events
pub mod Cycle
