pub mod LookupTable
pub mod TargetWords
