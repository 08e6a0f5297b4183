pub mod Text
pub mod Grammar
pub mod Fronts
pub mod Reading
pub mod Watch
pub mod Watched
