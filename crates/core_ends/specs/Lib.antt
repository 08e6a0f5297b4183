pub mod Extents
pub mod Budgets
