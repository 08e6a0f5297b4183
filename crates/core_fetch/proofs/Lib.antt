mod Row
mod Turns
mod Close
mod Whole
