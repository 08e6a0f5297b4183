mod Sums
mod Marks
mod Grow
mod Staged
pub mod Standing
