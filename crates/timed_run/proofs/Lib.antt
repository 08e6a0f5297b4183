pub mod Finishes
pub mod Loop
