pub mod Counted
pub mod CountLaws
pub mod StageCounts
pub mod Standing
