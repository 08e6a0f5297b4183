pub mod Marks
pub mod Turn
pub mod Ending
pub mod Loop
