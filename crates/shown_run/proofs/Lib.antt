pub mod Gathered
pub mod Stays
pub mod Adds
pub mod Records
pub mod Budgets
pub mod Ends
pub mod Within
pub mod Headline
