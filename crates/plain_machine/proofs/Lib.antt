pub mod Histories
pub mod Newest
pub mod Performs
pub mod Shown
pub mod Fetched
pub mod Staged
pub mod Joined
