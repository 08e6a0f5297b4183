pub mod Calls
pub mod LawProofs
pub mod Links
pub mod Places
pub mod Rows
pub mod Stays
pub mod Walks
