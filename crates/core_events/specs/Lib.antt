pub mod Exits
pub mod Recoveries
pub mod Completions
pub mod Commits
