pub mod Lists
pub mod Live
mod Walks
