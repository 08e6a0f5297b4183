pub mod Counted
pub mod Expected
