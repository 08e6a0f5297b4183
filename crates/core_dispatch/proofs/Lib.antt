mod Performed
mod Lasts
mod Entry
mod Partial
mod Marked
mod Producers
mod Does
mod Stay
mod Enacting
mod Exits
mod Test
mod Whole
mod Turned
mod Admit
mod Fitting
pub mod Wanting
