pub mod Steps
pub mod LawProofs
