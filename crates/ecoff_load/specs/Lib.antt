pub mod Words
pub mod Fetch
pub mod Sections
pub mod Object
pub mod Checks
pub mod Reading
pub mod Layout
pub mod Start
