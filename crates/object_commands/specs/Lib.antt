pub mod Listing
pub mod Outcome
pub mod OutcomeLaws
pub mod SomeLaws
