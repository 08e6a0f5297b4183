pub mod Exits
pub mod Sources
pub mod Recoveries
pub mod Completions
pub mod Commits
