mod Watched
mod Starts
mod Whole
mod Commits
mod Ends
mod Texts
