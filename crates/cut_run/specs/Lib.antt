pub mod Point
pub mod Parts
pub mod Plan
pub mod Comes
