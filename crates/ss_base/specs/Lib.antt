pub mod Outside
pub mod Memory
pub mod Listed
pub mod Text
pub mod Begins
pub mod Known
