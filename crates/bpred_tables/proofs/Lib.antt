pub mod Histories
pub mod Learning
pub mod Latest
pub mod Rings
mod Worked
