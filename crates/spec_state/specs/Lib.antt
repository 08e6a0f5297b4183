pub mod Overlay
pub mod View
pub mod Laws
