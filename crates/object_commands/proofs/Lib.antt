pub mod Listed
mod Putting
