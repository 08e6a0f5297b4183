pub mod Limits
pub mod History
pub mod Parts
pub mod Stands
pub mod Laws
