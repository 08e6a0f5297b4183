pub mod Verdict
pub mod Turn
pub mod TurnLaws
