pub mod Addresses
pub mod Rows
pub mod Stands
pub mod Fits
pub mod Stages
