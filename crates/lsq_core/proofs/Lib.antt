pub mod LawProofs
pub mod Places
pub mod Rises
pub mod Walks
