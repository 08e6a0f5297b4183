pub mod Kept
pub mod Held
pub mod Asked
pub mod Until
pub mod IssueStage
pub mod NextFetch
