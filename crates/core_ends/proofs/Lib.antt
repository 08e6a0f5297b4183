pub mod Steps
pub mod Ends
pub mod InFlight
pub mod Histories
pub mod LastCommits
pub mod Budgets
