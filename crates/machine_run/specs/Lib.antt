pub mod Counts
pub mod Plan
pub mod Timed
pub mod Comes
pub mod Headline
