pub mod Answer
pub mod Report
pub mod Judging
pub mod JudgingLaws
pub mod Sound
pub mod SoundLaws
