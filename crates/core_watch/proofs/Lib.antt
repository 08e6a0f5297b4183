pub mod Events
pub mod Items
pub mod Pieces
pub mod Stages
pub mod Ends
pub mod CommitTurns
