pub mod Grammar
pub mod Reading
pub mod World
pub mod WorldLaws
pub mod Recorder
