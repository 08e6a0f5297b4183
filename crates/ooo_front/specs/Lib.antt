pub mod Fetching
pub mod Stands
pub mod Shown
pub mod Path
pub mod Laws
