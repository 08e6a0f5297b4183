mod Partial
mod Lasts
mod Head
mod Counted
mod Test
mod Marked
mod Stay
pub mod Whole
mod Fitting
mod Due
