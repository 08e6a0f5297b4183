pub mod Grown
pub mod Asked
