pub mod Least
mod Learns
mod Fitting
pub mod Named
mod Behind
mod Held
mod Known
mod Stand
