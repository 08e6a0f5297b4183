mod Pairs
mod PartLoads
mod Properness
pub mod Columns
pub mod Ways
pub mod Going
pub mod Writing
pub mod Reading
